-- The new addresses in entries, and entries that are noted as copied.
use Rattle.std.specs.Prelude.{ℕ, zero, suc, ◌+◌, ◌-◌, List, map, slice_get, Option, Some, None, if◌then◌else◌}
use Rattle.model.specs.declared.records.Forwarding.{Forwarding}
use Rattle.model.specs.Moves.{set_copied_of}
use Rattle.model.specs.Bits.{of_page}
use Rattle.model.specs.States.{change_at}

-- the offset of an entry, if there is one
abbrev pub offset_of : Option Forwarding → Option ℕ
offset_of None = None
offset_of (Some f) = Some f.offset

-- the new address in it
abbrev pub place_of : Option Forwarding → Option ℕ
place_of None = None
place_of (Some f) = Some f.to

-- the new address in it, if it is uncopied
abbrev pub place_to_copy : Option Forwarding → Option ℕ
place_to_copy None = None
place_to_copy (Some f) = if f.copied then None else Some f.to

-- a forwarding table after the object of one of its entries is copied, if there is one that was uncopied
abbrev pub noted_side : Option Forwarding → List Forwarding → List Forwarding
noted_side None side = side
noted_side (Some f) side = if f.copied then side else map (set_copied_of f.offset) side

-- the same of k entries, from number e on
abbrev pub noted_run : ℕ → ℕ → List Forwarding → List Forwarding
noted_run e zero side = side
noted_run e (suc k) side = noted_run (e + 1) k (noted_side (slice_get side e) side)

-- the forwarding tables after the object of an entry is copied, if it is one of page n
abbrev pub noted_sides : ℕ → Option Forwarding → List (List Forwarding) → List (List Forwarding)
noted_sides n None sides = sides
noted_sides n (Some f) sides = if f.copied then sides else change_at sides (n - 1) (map (set_copied_of f.offset))

-- the same of k entries, from number e on
abbrev pub noted_range : ℕ → ℕ → ℕ → List (List Forwarding) → List (List Forwarding)
noted_range n e zero sides = sides
noted_range n e (suc k) sides = noted_range n (e + 1) k (noted_sides n (slice_get (of_page sides n) e) sides)
