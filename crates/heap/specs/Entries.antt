-- Entries of a forwarding table that a page may be given.
use Rattle.std.specs.Prelude.{ℕ, ◌+◌, ◌*◌, ◌&&◌, Bool, true, List, [], ◌∷◌, Option, Some, None}
use Rattle.std.specs.Prelude.{nat_le, nat_lt, if◌then◌else◌}
use Rattle.model.specs.declared.config.Config.{Config}
use Rattle.model.specs.declared.records.Forwarding.{Forwarding}
use Rattle.model.specs.Holding.{AreRising, GoesToPage}
use Rattle.model.specs.Owning.{Each}
use Rattle.model.specs.States.{HeapState}

-- entries of a forwarding table of a heap: their offsets rise and lie in a page, and each goes to a page
abbrev pub IsSideFor : HeapState → List Forwarding → Type 0
IsSideFor h side = AreRising h.config.words 0 side × Each side (GoesToPage h.config)

-- an entry's offset is at least a lowest one, and it goes to a page
abbrev pub is_entry : Config → ℕ → Forwarding → Bool
is_entry c low f = nat_le low f.offset && nat_lt f.to ((c.pages + 1) * c.words)

-- an entry meets its conditions: it also lies in a page
abbrev pub is_fine : Config → ℕ → Forwarding → Bool
is_fine c low f = nat_lt f.offset c.words && is_entry c low f

-- the lowest offset of the entry after this one; none if this one doesn't meet its conditions
abbrev pub next_low : Config → ℕ → Option Forwarding → Option ℕ
next_low c low None = None
next_low c low (Some f) = if is_fine c low f then Some (f.offset + 1) else None

-- all entries meet their conditions, from a lowest offset on
abbrev pub are_entries : Config → ℕ → List Forwarding → Bool
are_entries c low [] = true
are_entries c low (f ∷ fs) = is_fine c low f && are_entries c (f.offset + 1) fs
