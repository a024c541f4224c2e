-- A heap in which one thread at most runs, and nothing delays it.
use Rattle.std.specs.Prelude.{◌≡◌, ◌<◌, ℕ, Bool, true, false, not, Option, Some, None, slice_get}
use Rattle.model.specs.Outcome.{is_loading_in}
use Rattle.model.specs.Phases.{is_crossing}
use Rattle.model.specs.States.{HeapState, ThreadState}

-- a thread that may be missing runs: it isn't parked
abbrev pub runs_in : Option ThreadState → Bool
runs_in None = false
runs_in (Some t) = not t.parked

-- no thread is inside a load, only thread t may run, and there is a worker that can collect
pub record RunsAlone (h : HeapState) (t : ℕ) : Type 0 where
  pub closed : (u : ℕ) → is_loading_in (slice_get h.threads u) ≡ false
  pub alone : (u : ℕ) → runs_in (slice_get h.threads u) ≡ true → u ≡ t
  pub workers : 0 < h.config.workers

-- RunsAlone, and no checkpoint is open
pub record IsApart (h : HeapState) (t : ℕ) : Type 0 where
  pub phase : is_crossing h.phase ≡ false
  pub runs : RunsAlone h t

-- all threads are parked, outside of loads, and no checkpoint is open
pub record IsStill (h : HeapState) : Type 0 where
  pub phase : is_crossing h.phase ≡ false
  pub closed : (u : ℕ) → is_loading_in (slice_get h.threads u) ≡ false
  pub parked : (u : ℕ) → runs_in (slice_get h.threads u) ≡ false
  pub workers : 0 < h.config.workers

-- a thread is parked, and outside of a load, or it doesn't exist
pub record IsStillAt (h : HeapState) (u : ℕ) : Type 0 where
  pub closed : is_loading_in (slice_get h.threads u) ≡ false
  pub parked : runs_in (slice_get h.threads u) ≡ false

-- all threads are still
abbrev pub AllStill : HeapState → Type 0
AllStill h = (u : ℕ) → IsStillAt h u
