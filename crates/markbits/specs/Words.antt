-- Bitmaps as words.
use Rattle.std.specs.Prelude.{◌≡◌, ℕ, ◌*◌, ◌/◌, ◌%◌, ◌^◌, ◌<◌, ◌≤◌, Bool, true, false, List, length, map, ◌==◌}
use Rattle.std.specs.Prelude.{slice_index, slice_index_or, count_by, Option, None, Some}
use Rattle.std.specs.List.{range_with_len}
use Rattle.std.specs.Int.{bit_at, div_ceil}

-- bit i of the words, counted from the lowest bit of the first; false past their end
abbrev pub bit_of : List ℕ → ℕ → Bool
bit_of words i = bit_at (slice_index words (i / 64)) (i % 64) == 1

-- the first n bits of the words
unfoldable pub bits_of : ℕ → List ℕ → List Bool
bits_of n words = map (bit_of words) (range_with_len 0 n)

-- how many bits are set
unfoldable pub set_count : List Bool → ℕ
set_count row = count_by (λ b. b) row

-- the words have exactly the space for n bits, which are fewer than 2 ^ 32; no bit is set from n on, and `total`
-- below
pub record IsRow (words : List ℕ) (n total : ℕ) : Type 0 where
  pub short : n < 2 ^ 32
  pub room : length words ≡ div_ceil n 64
  pub rest : (i : ℕ) → n ≤ i → bit_of words i ≡ false
  pub counted : total ≡ set_count (bits_of n words)

-- no bit is set before word `low`
abbrev pub IsLow : List Bool → ℕ → Type 0
IsLow row low = (i : ℕ) → i < 64 * low → slice_index_or row i false ≡ false

-- k is the first place from i on whose bit is set
pub record IsFirstFrom (row : List Bool) (i k : ℕ) : Type 0 where
  pub low : i ≤ k
  pub here : slice_index_or row k false ≡ true
  pub before : (j : ℕ) → i ≤ j → j < k → slice_index_or row j false ≡ false

-- the first place from i on whose bit is set, if there is one
abbrev pub IsNextPlace : List Bool → ℕ → Option ℕ → Type 0
IsNextPlace row i None = (j : ℕ) → i ≤ j → slice_index_or row j false ≡ false
IsNextPlace row i (Some k) = IsFirstFrom row i k
