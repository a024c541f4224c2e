-- Pages that have memory and aren't protected, so that steps on their objects are done at once.
use Rattle.std.specs.Prelude.{◌≡◌, ◌/◌, ℕ, Some, false}
use Rattle.model.specs.States.{HeapState}
use Rattle.model.specs.Stores.{is_protected, state_at}
use Rattle.page.specs.Usable.{usable_frame}

-- an address is on no protected page
abbrev pub IsOpenTo : HeapState → ℕ → Type 0
IsOpenTo h address = is_protected (state_at h.store (address / h.store.words)) ≡ false

-- an address is on a page that has memory, this frame, and isn't protected
abbrev pub IsOnFrame : HeapState → ℕ → ℕ → Type 0
IsOnFrame h address frame = usable_frame h.store (address / h.store.words) ≡ Some frame
