-- A bitmap with the number of bits that are set before each of its words.
use Rattle.std.specs.Prelude.{◌≡◌, ℕ, ◌*◌, ◌<◌, ◌≤◌, true, false, Bool, List, length, take, count_by, slice_index}
use Rattle.std.specs.Prelude.{slice_index_or, Option, Some, None}
use Rattle.std.specs.Int.{div_ceil}

-- how many bits of a bitmap are set below a place
abbrev pub rank_of : List Bool → ℕ → ℕ
rank_of row i = count_by (λ b. b) (take i row)

-- each word of a bitmap has a number: how many bits are set before that word
pub record IsRanked (row : List Bool) (before : List ℕ) : Type 0 where
  pub room : length before ≡ div_ceil (length row) 64
  pub each : (k : ℕ) → k < length before → slice_index before k ≡ rank_of row (64 * k)

-- the place of set bit i, counted from 0; if there is none, at most i bits are set
abbrev pub IsPlaceOf : List Bool → ℕ → Option ℕ → Type 0
IsPlaceOf row i None = count_by (λ b. b) row ≤ i
IsPlaceOf row i (Some k) = (slice_index_or row k false ≡ true) × (rank_of row k ≡ i)
