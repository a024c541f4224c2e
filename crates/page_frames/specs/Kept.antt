-- Live objects of a page that are kept with its frame.
use Rattle.std.specs.Prelude.{◌≡◌, ℕ, Bool, List, [], ◌∷◌, map, slice_get}
use Rattle.forward.specs.Objects.{ObjectsState}
use Rattle.layout.specs.declared.shape.Layout.{Layout}
use Rattle.model.specs.Data.{header_layout, layout_in}
use Rattle.model.specs.Plans.{offsets_from, words_of}

-- the size of the object at an offset of words, by the layout in its header
abbrev pub size_in : List Layout → List ℕ → ℕ → ℕ
size_in layouts words o = words_of (layout_in layouts (header_layout (slice_get words o)))

-- the sizes of the objects at the set bits of a bitmap
abbrev pub sizes_in : List Layout → List ℕ → List Bool → List ℕ
sizes_in layouts words live = map (size_in layouts words) (offsets_from 0 live)

-- the objects at the set bits of a bitmap
abbrev pub objects_in : List Layout → List ℕ → List Bool → ObjectsState
objects_in layouts words live = record { live = live; sizes = sizes_in layouts words live }

-- objects, with the layouts by which their sizes were found
pub record KeptState : Type 0 where
  pub objects : ObjectsState
  pub layouts : List Layout

-- they are objects in these words
abbrev pub IsKept : List ℕ → KeptState → Type 0
IsKept words k = k.objects ≡ objects_in k.layouts words k.objects.live

-- all of them are
abbrev pub AreKept : List ℕ → List KeptState → Type 0
AreKept words [] = Unit {0}
AreKept words (k ∷ ks) = IsKept words k × AreKept words ks
