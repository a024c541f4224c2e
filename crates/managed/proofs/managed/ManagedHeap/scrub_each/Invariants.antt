use Rattle.std.proofs.Common.{◌≡◌, ◌<◌, ℕ, false}
use Rattle.model.specs.Phases.{is_protect_crossing}
use Rattle.managed.specs.Goings.{Goes, IsScrub}
use Rattle.managed.specs.Scrubbing.{IsScrubbed}
use Rattle.managed.proofs.managed.ManagedHeap.scrub_each.Given as goal

-- the registers so far are corrected
abbrev pub invariant-loop-register : goal.invariant-loop-register
invariant-loop-register l = record {
  goes : Goes IsScrub l.fn.self l.self;
  scrubbed : is_protect_crossing l.fn.self.phase ≡ false → (r : ℕ) → r < l.register → IsScrubbed l.self l.thread r;
}
