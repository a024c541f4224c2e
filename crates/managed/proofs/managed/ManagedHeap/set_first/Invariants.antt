use Rattle.fast_paths.specs.Found.{FindsObject}
use Rattle.managed.specs.Batches.{IsRestOfData}
use Rattle.managed.proofs.managed.ManagedHeap.set_first.Given as goal

abbrev pub invariant-loop-index : goal.invariant-loop-index
invariant-loop-index l = FindsObject l.self l.thread l.object l.found
    × IsRestOfData l.thread l.object 0 l.fn.self l.nums l.index l.self
