-- The bit of an address, where there may be no bitmap.
use Rattle.std.specs.Prelude.{ℕ, ◌/◌, ◌%◌, Bool, List, Option, slice_get}
use Rattle.model.specs.Bits.{of_page}

-- the bit of an address in bitmaps of pages of `words` words, if it has one
abbrev pub bit_in : List (List Bool) → ℕ → ℕ → Option Bool
bit_in rows words a = slice_get (of_page rows (a / words)) (a % words)
