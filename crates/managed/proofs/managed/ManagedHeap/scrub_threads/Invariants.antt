use Rattle.std.proofs.Common.{◌≡◌, ◌<◌, ℕ, false}
use Rattle.model.specs.Phases.{is_protect_crossing}
use Rattle.managed.specs.Goings.{Goes, IsScrub}
use Rattle.managed.specs.Scrubbing.{IsScrubbed}
use Rattle.managed.proofs.managed.ManagedHeap.scrub_threads.Given as goal

-- the registers of the threads so far are corrected
abbrev pub invariant-loop-thread : goal.invariant-loop-thread
invariant-loop-thread l = record {
  goes : Goes IsScrub l.fn.self l.self;
  scrubbed : is_protect_crossing l.fn.self.phase ≡ false
      → (t : ℕ) → t < l.thread → (r : ℕ) → IsScrubbed l.self t r;
}
