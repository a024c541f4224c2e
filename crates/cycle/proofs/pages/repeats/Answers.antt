use Rattle.std.proofs.Common.{◌<◌, ◌∙◌, ap, arith, get_or, length, length-set, refl, sym, true}
use Rattle.cycle.proofs.Seen.{seen_again, seen_first, seen_next}
use Rattle.cycle.proofs.pages.repeats.Goals as goal

pub loop-index-init : goal.loop-index-init
loop-index-init c = (seen_first c.args.seen.now (length c.args.seen.now) c.args.pages.now c.requires.clear, refl)

pub returns-then-note : goal.returns-then-note
returns-then-note c = sym (c.loop-index.invariant.0
    ∙ seen_again c.loop-index.seen c.loop-index.index c.args.pages.now c.loop-index-test.true
    (sym c.note.ensures.was ∙ c.if-note.true))

pub loop-index-preserved : goal.loop-index-preserved
loop-index-preserved c =
    let pages = c.args.pages.now in
    let seen = c.loop-index.seen in
    let i = c.loop-index.index in
    let n = get_or pages i 0 in
    let within : n < length seen = omega (
      arith,
      c.requires.within i 0 c.loop-index-test.true,
      c.loop-index.invariant.1,
    ) in (
      c.loop-index.invariant.0 ∙ seen_next seen c.note.new.seen i n pages c.loop-index-test.true refl within
          (sym c.note.ensures.was ∙ c.if-note.false) c.note.ensures.noted,
      ap length c.note.ensures.noted ∙ length-set seen n true ∙ c.loop-index.invariant.1,
    )
