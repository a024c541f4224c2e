use Rattle.std.proofs.Common.{ap, length, subst, arith, length-append, [], ◌∷◌}
use Rattle.markbits.specs.Words.{IsNextPlace}
use Rattle.forward.proofs.Offsets.{left_next, left_none, sized_all, sized_next}
use Rattle.page_frames.specs.Kept.{size_in}
use Rattle.page_frames.proofs.kept.sizes_in.Goals as goal

pub loop-offset-preserved : goal.loop-offset-preserved
loop-offset-preserved c =
    let row = c.args.live.now in
    let k = c.in-Some.offset in
    let found = subst (IsNextPlace row c.loop-offset.from) c.in-Some.is c.next_from.ensures in (
      sized_next (size_in c.args.layouts.now c.args.words.now) c.loop-offset.sizes c.push.new.self _ _ _ k
          c.size_at-size.result (left_next row c.loop-offset.from k found) c.size_at-size.ensures.value
          c.in_ok-push.ensures c.loop-offset.invariant.0,
      omega (
        arith,
        c.loop-offset.invariant.1,
        found.low,
        ap length c.in_ok-push.ensures,
        length-append c.loop-offset.sizes (c.size_at-size.result ∷ []),
      ),
    )

pub returns : goal.returns
returns c =
    let row = c.args.live.now in
    sized_all (size_in c.args.layouts.now c.args.words.now) c.loop-offset.sizes _ _
    (left_none row c.loop-offset.from (subst (IsNextPlace row c.loop-offset.from) c.in_default.is c.next_from.ensures))
    c.loop-offset.invariant.0
