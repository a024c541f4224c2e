use Rattle.collecting.proofs.Collections.{LeftPages}
use Rattle.collecting.proofs.leftovers.settle_pages.Given as goal

-- the pages so far aren't being emptied
abbrev pub invariant-loop-index : goal.invariant-loop-index
invariant-loop-index l = LeftPages l.fn.heap l.index l.heap
