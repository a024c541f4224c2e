use Rattle.page.proofs.Swapping.{SwapsRest}
use Rattle.page.proofs.owned.swap_pages.Given as goal

abbrev pub invariant-loop-index : goal.invariant-loop-index
invariant-loop-index l = SwapsRest l.fn.records l.first l.fn.frames l.fn.owned l.index l.frames l.owned
