-- Resolving and marking references.
use Rattle.std.specs.Prelude.{ℕ, ◌/◌, ◌%◌, ◌==◌, true, List, [], ◌∷◌, Bool, Option, Some, None, if◌then◌else◌}
use Rattle.model.specs.declared.records.Forwarding.{Forwarding}
use Rattle.model.specs.States.{Reference, HeapState}
use Rattle.model.specs.Bits.{of_page, bit_at, with_bit}

-- the entry of an offset in a forwarding table
abbrev pub entry_of : List Forwarding → ℕ → Option Forwarding
entry_of [] offset = None
entry_of (f ∷ fs) offset = if f.offset == offset then Some f else entry_of fs offset

-- the entry of the object at an address, if a forwarding table has one
unfoldable pub entry_at : HeapState → ℕ → Option Forwarding
entry_at h address = entry_of (of_page h.sides (address / h.store.words)) (address % h.store.words)

-- an address after it was forwarded by an entry, if there is one
abbrev pub forward_by : Option Forwarding → ℕ → ℕ
forward_by None address = address
forward_by (Some f) address = if f.copied then f.to else address

-- the current address of an object
unfoldable pub resolve : HeapState → ℕ → ℕ
resolve h address = forward_by (entry_at h address) address

-- the mark bits after the object of a reference was marked
abbrev pub mark_after : HeapState → Reference → List (List Bool)
mark_after h None = h.mark
mark_after h (Some w) = with_bit h.mark h.store.words (resolve h w.0) true

-- the grey bits after the object of a reference was marked: it is grey if it wasn't marked before
abbrev pub todo_after : HeapState → Reference → List (List Bool)
todo_after h None = h.todo
todo_after h (Some w) =
    if bit_at h.mark h.store.words (resolve h w.0) then h.todo else with_bit h.todo h.store.words (resolve h w.0) true

-- the heap after the object of a reference was marked
unfoldable pub with_mark : HeapState → Reference → HeapState
with_mark h v = record h { mark = mark_after h v; todo = todo_after h v }

-- the corrected reference: it has the object's current address and the clean NMT value
unfoldable pub marked_word : HeapState → Reference → Reference
marked_word h None = None
marked_word h (Some w) = Some (resolve h w.0, h.nmt)
