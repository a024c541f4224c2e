use Rattle.std.proofs.Common.{ℕ, ◌<◌}
use Rattle.managed.specs.Goings.{Goes, HasTried, IsCrossing}
use Rattle.managed.proofs.managed.ManagedHeap.cross_each.Given as goal

-- crossings have led here, and each thread so far has crossed or can't
abbrev pub invariant-loop-thread : goal.invariant-loop-thread
invariant-loop-thread l = record {
  goes : Goes (IsCrossing l.worker) l.fn.self l.self;
  tried : (t : ℕ) → t < l.thread → HasTried l.worker l.self t;
}
