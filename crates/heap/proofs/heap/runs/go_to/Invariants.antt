use Rattle.page_rows.specs.Runs.{GoTo}
use Rattle.model.specs.Bits.{of_page}
use Rattle.heap.proofs.heap.runs.go_to.Given as goal

-- the entries so far go to the target
abbrev pub invariant-loop-index : goal.invariant-loop-index
invariant-loop-index l = GoTo l.fn.heap.store.words l.fn.target (of_page l.fn.heap.sides l.fn.page) l.fn.first l.index
