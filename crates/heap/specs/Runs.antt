-- Runs: consecutive entries of a page's forwarding table, whose objects are copied.
use Rattle.std.specs.Prelude.{ℕ, zero, suc, ◌+◌, ◌*◌, ◌/◌, ◌≤◌, ◌==◌, Bool, false, Option, Some}
use Rattle.std.specs.Prelude.{None, length, slice_get}
use Rattle.model.specs.declared.records.Forwarding.{Forwarding}
use Rattle.model.specs.States.{HeapState}
use Rattle.model.specs.Bits.{of_page}
use Rattle.model.specs.Moves.{copied_by}
pub use Rattle.page_rows.specs.Runs.{GoTo}

-- the heap after the object of an entry of page n is copied, if there is one that was uncopied
abbrev pub with_entry : HeapState → ℕ → Option Forwarding → HeapState
with_entry h n None = h
with_entry h n (Some f) = copied_by h (n * h.store.words + f.offset) (Some f)

-- the same of k entries from number e on
abbrev pub with_entries : HeapState → ℕ → ℕ → ℕ → HeapState
with_entries h n e zero = h
with_entries h n e (suc k) = with_entries (with_entry h n (slice_get (of_page h.sides n) e)) n (e + 1) k

-- page n has k entries from number e on, and all of them go to one target
abbrev pub IsRunOn : HeapState → ℕ → ℕ → ℕ → ℕ → Type 0
IsRunOn h n target e k =
    (e + k ≤ length (of_page h.sides n)) × GoTo h.store.words target (of_page h.sides n) e k

-- the object of an entry that may be missing goes to a target
abbrev pub goes_to : ℕ → ℕ → Option Forwarding → Bool
goes_to words target None = false
goes_to words target (Some f) = f.to / words == target
