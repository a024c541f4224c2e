use Rattle.fast_paths.specs.Found.{FindsObject}
use Rattle.managed.specs.Batches.{IsRestOfStores}
use Rattle.managed.proofs.managed.ManagedHeap.store_first.Given as goal

abbrev pub invariant-loop-index : goal.invariant-loop-index
invariant-loop-index l = FindsObject l.self l.thread l.object l.found
    × IsRestOfStores l.thread l.object 0 l.fn.self l.sources l.index l.self
