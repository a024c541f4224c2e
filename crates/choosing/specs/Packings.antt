-- Next fit, object by object.
use Rattle.std.specs.Prelude.{ℕ, ◌+◌, ◌^◌, ◌==◌, ◌&&◌, not, Bool, List, [], ◌∷◌, nat_le, nat_lt, if◌then◌else◌}
use Rattle.std.specs.Prelude.{Option, Some, None}
use Rattle.model.specs.States.{HeapState}
use Rattle.choosing.specs.declared.packing.Packing.{Packing}
use Rattle.choosing.specs.Choices.{sizes_on}

-- after an object of n words: in the present target if it fits, else at the start of the next one
unfoldable pub pack_one : ℕ → Packing → ℕ → Packing
pack_one words s n =
    if nat_le (s.offset + n) words then record { target = s.target; offset = s.offset + n; count = s.target + 1 }
    else record { target = s.target + 1; offset = n; count = s.target + 2 }

-- after objects of n words together that fit in the present target
abbrev pub packed_there : Packing → ℕ → Packing
packed_there s n = record { target = s.target; offset = s.offset + n; count = s.target + 1 }

-- after objects of these sizes
abbrev pub pack : ℕ → Packing → List ℕ → Packing
pack words s [] = s
pack words s (n ∷ ns) = pack words (pack_one words s n) ns

-- before all objects
abbrev pub first_packing : Packing
first_packing = record { target = 0; offset = 0; count = 0 }

-- page n exists, and no more was packed than a heap can have
abbrev pub has_page_for : HeapState → ℕ → Packing → Bool
has_page_for h n s = not (n == 0) && nat_le n h.store.count && nat_le s.target (2 ^ 32) && nat_lt s.offset (2 ^ 17)

-- after the live objects of page n, if there is such a page
abbrev pub pack_if : HeapState → ℕ → Packing → Option Packing
pack_if h n s = if has_page_for h n s then Some (pack h.store.words s (sizes_on h n)) else None
