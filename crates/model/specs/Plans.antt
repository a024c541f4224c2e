-- Plans: the places of pages' live objects, and the forwarding tables with them.
use Rattle.std.specs.List.{flat_map}
use Rattle.std.specs.Prelude.{ℕ, ◌+◌, ◌-◌, ◌*◌, ◌==◌, Bool, true, false, List, [], ◌∷◌, map, zip, get_or}
use Rattle.std.specs.Prelude.{slice_set, Option, Some, None, nat_le, if◌then◌else◌}
use Rattle.layout.specs.declared.shape.Layout.{Layout}
use Rattle.layout.specs.Objects.{size_of}
use Rattle.model.specs.declared.records.Forwarding.{Forwarding}
use Rattle.model.specs.States.{HeapState}
use Rattle.model.specs.Bits.{of_page}
use Rattle.model.specs.Data.{layout_at}

-- places

-- The places of objects of these sizes. The first is at this offset of this target if it fits there; each is after
-- the one before, or at the start of the next target if it doesn't fit. A place is a target, from 0, and an offset.
abbrev pub places_from : ℕ → ℕ → ℕ → List ℕ → List (ℕ × ℕ)
places_from words target offset [] = []
places_from words target offset (n ∷ ns) =
    if nat_le (offset + n) words then (target, offset) ∷ places_from words target (offset + n) ns
    else (target + 1, 0) ∷ places_from words (target + 1) n ns

-- how many targets these places are in
abbrev pub target_count : List (ℕ × ℕ) → ℕ
target_count [] = 0
target_count (p ∷ []) = p.0 + 1
target_count (p ∷ q ∷ ps) = target_count (q ∷ ps)

-- what is planned

-- the offsets, rising, of the bits that are set in a bitmap whose first bit has this offset
abbrev pub offsets_from : ℕ → List Bool → List ℕ
offsets_from o [] = []
offsets_from o (true ∷ bits) = o ∷ offsets_from (o + 1) bits
offsets_from o (false ∷ bits) = offsets_from (o + 1) bits

-- the offsets of the live objects of page n
unfoldable pub live_offsets : HeapState → ℕ → List ℕ
live_offsets h n = offsets_from 0 (of_page h.live n)

-- the addresses of the live objects of page n
abbrev pub live_on : HeapState → ℕ → List ℕ
live_on h n = map (λ o. n * h.store.words + o) (live_offsets h n)

-- the addresses of the live objects of pages, in the pages' order
unfoldable pub live_objects : HeapState → List ℕ → List ℕ
live_objects h pages = flat_map (live_on h) pages

-- the number of words of an object of a layout; 1, for the header alone, if there is no layout
abbrev pub words_of : Option Layout → ℕ
words_of None = 1
words_of (Some l) = size_of l

-- the number of words of the object at an address
unfoldable pub object_words : HeapState → ℕ → ℕ
object_words h address = words_of (layout_at h address)

-- the places of the live objects of pages
unfoldable pub plan_of : HeapState → List ℕ → List (ℕ × ℕ)
plan_of h pages = places_from h.store.words 0 0 (map (object_words h) (live_objects h pages))

-- the address of a place, in targets on these pages
abbrev pub address_in : ℕ → List ℕ → ℕ × ℕ → ℕ
address_in words targets p = get_or targets p.0 0 * words + p.1

-- each live object of pages, paired with its new address in targets on these pages
unfoldable pub moves_of : HeapState → List ℕ → List ℕ → List (ℕ × ℕ)
moves_of h pages targets = zip (live_objects h pages) (map (address_in h.store.words targets) (plan_of h pages))

-- forwarding tables

-- the new address of the object at an address; 0 if none is planned
abbrev pub place_of : List (ℕ × ℕ) → ℕ → ℕ
place_of [] a = 0
place_of (m ∷ ms) a = if m.0 == a then m.1 else place_of ms a

-- the forwarding table of page n: its live objects, and their new addresses
unfoldable pub side_of : HeapState → List (ℕ × ℕ) → ℕ → List Forwarding
side_of h moves n = map
    (λ o. record { offset = o; to = place_of moves (n * h.store.words + o); copied = false }) (live_offsets h n)

-- forwarding tables after those of these pages were made from moves
abbrev pub with_sides : HeapState → List (ℕ × ℕ) → List ℕ → List (List Forwarding) → List (List Forwarding)
with_sides h moves [] sides = sides
with_sides h moves (n ∷ ns) sides = with_sides h moves ns (slice_set sides (n - 1) (side_of h moves n))
