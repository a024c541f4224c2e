use Rattle.std.proofs.Common.{ℕ, ◌<◌}
use Rattle.portions.specs.Apart.{IsStillAt}
use Rattle.portions.proofs.opening.first_busy.Given as goal

-- the threads so far are still
abbrev pub invariant-loop-thread : goal.invariant-loop-thread
invariant-loop-thread l = (u : ℕ) → u < l.thread → IsStillAt l.fn.heap u
