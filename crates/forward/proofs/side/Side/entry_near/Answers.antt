use Rattle.std.proofs.Common.{◌≡◌, ◌∙◌, ◌<◌, ap, length, arith}
use Rattle.std.specs.List.{slice_get}
use Rattle.model.specs.Plans.{offsets_from}
use Rattle.markbits.specs.Ranks.{rank_of}
use Rattle.std.proofs.Common.{get_or}
use Rattle.forward.proofs.Edited.{entry_is, past_all}
use Rattle.forward.proofs.Ranked.{entries_many, ranked_offset}
use Rattle.forward.proofs.side.Side.entry_near.Goals as goal

pub returns-then-index-len : goal.returns-then-index-len
returns-then-index-len c = past_all c.args.self.now c.args.index (omega (
  arith,
  c.if-index-len.true,
  c.len.ensures,
  ap length c.self.view_is,
  entries_many c.self.inside.live c.self.inside.places c.self.inside.copied,
))

pub returns : goal.returns
returns c =
    let live = c.self.inside.live in
    let places = c.self.inside.places in
    let there = c.in_ok-offset.ensures in
    let l : c.args.index < length places = omega (arith, c.if-index-len.false, c.len.ensures) in
    let ranked = ranked_offset 0 live c.in_ok-offset.offset there.0 in
    let read : get_or (offsets_from 0 live) (rank_of live c.in_ok-offset.offset) 0
    ≡ get_or (offsets_from 0 live) c.args.index 0 = ap (λ n. get_or (offsets_from 0 live) n 0) there.1 in
    let offset : c.in_ok-offset.offset ≡ get_or (offsets_from 0 live) c.args.index 0 = omega (arith, ranked, read) in
    entry_is live places c.self.inside.copied c.self.invariant.0 c.args.index c.in_ok-offset.offset c.get.result
    c.test.result l offset c.get.ensures c.test.ensures
    ∙ ap (λ s. slice_get s c.args.index) c.self.view_is
