use Rattle.std.proofs.Common.{◌∙◌, ◌<◌, length, ap, sym, arith}
use Rattle.model.specs.Cycles.{rows_after_mark}
use Rattle.page_rows.proofs.GivenRows.{all_taken, given_else, given_then}
use Rattle.page_rows.proofs.ending.give_up_rows.Goals.{then-is_protected_at, else-is_protected_at}
use Rattle.page_rows.proofs.ending.give_up_rows.Goals as goal

pub loop-index-preserved : goal.loop-index-preserved
loop-index-preserved c =
    let ps = c.args.store.now.pages in
    let i = c.loop-index.index in
    let low : i < length ps = omega (arith, c.loop-index-test.true, ap length c.pages-index-end.ensures) in
    elim c.if-is_protected_at.branch [
      | then-is_protected_at w ↦ given_then ps c.args.rows.now c.loop-index.rows _ i low
          (sym c.is_protected_at.ensures ∙ w.if-is_protected_at.true) c.loop-index.invariant
          (w.rows-is ∙ w.give_up.ensures)
      | else-is_protected_at w ↦ given_else ps c.args.rows.now c.loop-index.rows _ i low
          (sym c.is_protected_at.ensures ∙ w.if-is_protected_at.false) c.loop-index.invariant w.rows-is
    ]

pub returns : goal.returns
returns c = c.loop-index.invariant ∙ ap (λ ps. rows_after_mark ps c.args.rows.now)
    (all_taken c.args.store.now.pages c.loop-index.index
    (omega (arith, c.loop-index-test.false, ap length c.pages-index-end.ensures)))
