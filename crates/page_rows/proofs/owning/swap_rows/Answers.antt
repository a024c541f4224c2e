use Rattle.std.proofs.Common.{arith}
use Rattle.page_rows.proofs.SwappedRows.{rows_first, rows_next, rows_last}
use Rattle.page_rows.proofs.owning.swap_rows.Goals as goal

pub loop-index-init : goal.loop-index-init
loop-index-init c = rows_first c.args.first c.args.mark.now c.args.todo.now c.args.pages.now

pub loop-index-preserved : goal.loop-index-preserved
loop-index-preserved c =
    rows_next c.args.first c.args.mark.now c.args.todo.now c.args.pages.now c.loop-index.index c.loop-index.mark
    c.loop-index.todo c.swap_rows_of.new.mark c.swap_rows_of.new.todo c.loop-index.pages c.index-pages-index.result
    c.swap_rows_of.new.page c.loop-index.invariant
    (omega (arith, c.loop-index-test.true, c.loop-index.auto.pages)) c.swap_rows_of.ensures.mark
    c.swap_rows_of.ensures.todo c.swap_rows_of.ensures.page

pub returns : goal.returns
returns c =
    rows_last c.args.first c.args.mark.now c.args.todo.now c.args.pages.now c.loop-index.index c.loop-index.mark
    c.loop-index.todo c.loop-index.pages c.loop-index.invariant
    (omega (arith, c.loop-index-test.false, c.loop-index.auto.pages))
