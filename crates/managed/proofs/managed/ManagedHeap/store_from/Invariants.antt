use Rattle.managed.specs.Batches.{IsRestOfStores}
use Rattle.managed.proofs.managed.ManagedHeap.store_from.Given as goal

abbrev pub invariant-loop-index : goal.invariant-loop-index
invariant-loop-index l = IsRestOfStores l.thread l.object l.first l.fn.self l.sources l.index l.self
