use Rattle.fast_paths.specs.Found.{FindsObject}
use Rattle.managed.specs.Batches.{IsRestOfLoads}
use Rattle.managed.proofs.managed.ManagedHeap.load_first.Given as goal

abbrev pub invariant-loop-done : goal.invariant-loop-done
invariant-loop-done l = FindsObject l.self l.thread l.object l.found
    × IsRestOfLoads l.thread l.object 0 l.fn.self l.fields l.done l.self
