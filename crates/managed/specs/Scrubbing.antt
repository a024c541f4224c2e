-- Registers that are corrected.
use Rattle.std.specs.Prelude.{◌≡◌, ◌/◌, ℕ, Bool, true, false, Some, None, slice_get}
use Rattle.model.specs.declared.records.Phase.{Phase}
use Rattle.model.specs.declared.records.Phase.TheVariants.{Idle, Scanning}
use Rattle.model.specs.Outcome.{is_loading_in}
use Rattle.model.specs.Registers.{register_of}
use Rattle.model.specs.States.{HeapState, Reference}
use Rattle.model.specs.Stores.{state_at, is_protected}
use Rattle.model.specs.Threads.{is_parked_in}

-- a word names a page that is being emptied, or was
abbrev pub names_protected : HeapState → Reference → Bool
names_protected h None = false
names_protected h (Some w) = is_protected (state_at h.store (w.0 / h.store.words))

-- if thread t runs and has no open barrier, its register r is null, or names a page that isn't protected: so the thread
-- may use it
abbrev pub IsScrubbed : HeapState → ℕ → ℕ → Type 0
IsScrubbed h t r =
    is_parked_in (slice_get h.threads t) ≡ false → is_loading_in (slice_get h.threads t) ≡ false
    → names_protected h (register_of h t r) ≡ false

-- IsScrubbed holds for all registers. This excludes a parked thread, and one with an open barrier: their registers
-- stay as they are, and a later call corrects them
abbrev pub AreScrubbed : HeapState → Type 0
AreScrubbed h = (t r : ℕ) → IsScrubbed h t r

-- if no page is protected, or a mark runs that all threads have crossed, AreScrubbed holds anyway
abbrev pub needs_no_scrub : Phase → Bool
needs_no_scrub Idle = true
needs_no_scrub Scanning = true
needs_no_scrub _ = false
