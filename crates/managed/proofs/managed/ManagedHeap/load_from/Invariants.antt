use Rattle.managed.specs.Batches.{IsRestOfLoads}
use Rattle.managed.proofs.managed.ManagedHeap.load_from.Given as goal

abbrev pub invariant-loop-done : goal.invariant-loop-done
invariant-loop-done l = IsRestOfLoads l.thread l.object l.first l.fn.self l.fields l.done l.self
