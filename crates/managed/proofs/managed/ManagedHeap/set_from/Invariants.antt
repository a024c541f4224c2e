use Rattle.managed.specs.Batches.{IsRestOfData}
use Rattle.managed.proofs.managed.ManagedHeap.set_from.Given as goal

abbrev pub invariant-loop-index : goal.invariant-loop-index
invariant-loop-index l = IsRestOfData l.thread l.object l.first l.fn.self l.nums l.index l.self
