use Rattle.managed.proofs.Prepared.{HasCopied}
use Rattle.managed.proofs.managed.ManagedHeap.copy_all_left.Given as goal

-- the pages so far are done
abbrev pub invariant-loop-index : goal.invariant-loop-index
invariant-loop-index l = HasCopied l.worker l.index l.fn.self l.self
