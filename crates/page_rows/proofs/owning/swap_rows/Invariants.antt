use Rattle.page_rows.proofs.SwappedRows.{RowsRest}
use Rattle.page_rows.proofs.owning.swap_rows.Given as goal

abbrev pub invariant-loop-index : goal.invariant-loop-index
invariant-loop-index l = RowsRest l.first l.fn.mark l.fn.todo l.fn.pages l.index l.mark l.todo l.pages
