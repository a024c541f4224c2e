use Rattle.managed.proofs.Prepared.{NoneLeft}
use Rattle.managed.proofs.managed.ManagedHeap.copy_next.Given as goal

-- the pages so far have no uncopied object
abbrev pub invariant-loop-index : goal.invariant-loop-index
invariant-loop-index l = NoneLeft l.worker l.index l.fn.self l.self
