-- The bits of bitmaps, by page and offset, and by the addresses of words.
use Rattle.std.specs.Prelude.{ℕ, ◌-◌, ◌/◌, ◌%◌, zero, suc, Bool, false, List, [], get_or, map, count_by, length}
use Rattle.std.specs.List.{sum_by}
use Rattle.std.specs.Prelude.{replicate, slice_set}
use Rattle.sequences.specs.Elements.{change_at}

-- page n's element of a list with one element for each record
abbrev pub of_page : {X : Type 0} → List (List X) → ℕ → List X
of_page xs zero = []
of_page xs (suc i) = get_or xs i []

-- the bit of an offset of page n
abbrev pub bit_on : List (List Bool) → ℕ → ℕ → Bool
bit_on rows n offset = get_or (of_page rows n) offset false

-- the bit of an address, by the number of words of a page
abbrev pub bit_at : List (List Bool) → ℕ → ℕ → Bool
bit_at rows words a = bit_on rows (a / words) (a % words)

-- a bitmap with the bit of offset o set or cleared
abbrev pub put_bit : ℕ → Bool → List Bool → List Bool
put_bit o bit row = slice_set row o bit

-- bitmaps with the bit of an address set or cleared
abbrev pub with_bit : List (List Bool) → ℕ → ℕ → Bool → List (List Bool)
with_bit rows words a bit = change_at rows (a / words - 1) (put_bit (a % words) bit)

-- a bitmap of the same length with all bits clear
abbrev pub blank_row : List Bool → List Bool
blank_row row = replicate (length row) false

-- bitmaps of the same lengths with all bits clear
abbrev pub blank_all : List (List Bool) → List (List Bool)
blank_all rows = map blank_row rows

-- how many bits are set
abbrev pub bit_count : List (List Bool) → ℕ
bit_count rows = sum_by (count_by (λ b. b)) rows
