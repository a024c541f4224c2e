-- Forwarding tables, and tables of them by offset.
use Rattle.std.specs.Prelude.{◌≡◌, ◌<◌, ℕ, List, length, Option, None, Some, slice_get, get_or}
use Rattle.model.specs.declared.records.Forwarding.{Forwarding}
use Rattle.model.specs.Holding.{AreRising}
use Rattle.verify.specs.Images.{ImageData, PageData, copy_in}

-- for each offset of a page, the place is the copy's address by the forwarding table
abbrev pub ArePlaces : List Forwarding → ℕ → List (Option ℕ) → Type 0
ArePlaces side words places = (o : ℕ) → o < words → get_or places o None ≡ copy_in side o

-- the table of a forwarding table has such places; or none, if the offsets rise
abbrev pub Tells : List Forwarding → ℕ → Option (List (Option ℕ)) → Type 0
Tells side words None = AreRising words 0 side
Tells side words (Some places) = ArePlaces side words places

-- there is a table for the forwarding table of each page
pub record AreTables (i : ImageData) (tables : List (Option (List (Option ℕ)))) : Type 0 where
  pub sized : length tables ≡ length i.pages
  pub each : (n : ℕ) (p : PageData) → slice_get i.pages n ≡ Some p
      → (t : Option (List (Option ℕ))) × (slice_get tables n ≡ Some t) × Tells p.side i.words t
