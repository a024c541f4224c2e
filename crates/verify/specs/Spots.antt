-- The spots of a walk, by pages of a number of words. For a page without memory it keeps none.
use Rattle.std.specs.Prelude.{◌≡◌, ◌≢◌, ◌<◌, ◌≤◌, ℕ, ◌/◌, ◌%◌, ◌^◌, List, [], length, map, get_or, Option, Some, None}
use Rattle.std.specs.List.{range_with_len}
use Rattle.verify.specs.declared.spots.Spot.{Spot}
use Rattle.verify.specs.declared.spots.Spot.TheVariants.{Empty}
use Rattle.verify.specs.Walks.{spot_at}

-- the spot at an address, by the pages from number 0 on; past the end of a page's list it is empty
abbrev pub spot_on : ℕ → List (List Spot) → ℕ → Spot
spot_on words pages a = spot_at (get_or pages (a / words) []) (a % words)

-- the spots at the first addresses
unfoldable pub spots_of : ℕ → ℕ → List (List Spot) → List Spot
spots_of words count pages = map (spot_on words pages) (range_with_len 0 count)

-- pages have words, a list of at most as many spots each, and all addresses are below 2^40
pub record AreSpots (words count : ℕ) (pages : List (List Spot)) : Type 0 where
  pub sized : 0 < words
  pub few : count ≤ 2 ^ 40
  pub short : (k : ℕ) → length (get_or pages k []) ≤ words

-- the first address from one on at which an object starts; none if there is no such address
abbrev pub IsNextFilled : List Spot → ℕ → Option ℕ → Type 0
IsNextFilled spots from None = (b : ℕ) → from ≤ b → spot_at spots b ≡ Empty
IsNextFilled spots from (Some a) =
    (from ≤ a) × (a < length spots) × (spot_at spots a ≢ Empty)
    × ((b : ℕ) → from ≤ b → b < a → spot_at spots b ≡ Empty)
