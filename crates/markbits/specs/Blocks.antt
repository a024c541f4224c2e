-- A bitmap with an index of its blocks of 64 places.
use Rattle.std.specs.Prelude.{◌≡◌, ℕ, ◌+◌, ◌*◌, ◌/◌, true, false, Bool, List, length, take, slice_index_or, Option}
use Rattle.std.specs.Int.{div_ceil}
use Rattle.markbits.specs.Words.{IsNextPlace}

-- an index has a bit for each block of a bitmap, which is set if a bit of the block is
pub record IsIndex (row blocks : List Bool) : Type 0 where
  pub room : length blocks ≡ div_ceil (length row) 64
  pub all : (i : ℕ) → slice_index_or row i false ≡ true → slice_index_or blocks (i / 64) false ≡ true
  pub only : (j : ℕ) → slice_index_or blocks j false ≡ true
      → (i : ℕ) × (i / 64 ≡ j) × (slice_index_or row i false ≡ true)

-- the first place from i on, in the block of place i, whose bit is set
abbrev pub IsNextInBlock : List Bool → ℕ → Option ℕ → Type 0
IsNextInBlock row i result = IsNextPlace (take (64 * (i / 64 + 1)) row) i result
