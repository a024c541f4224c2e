-- Bitmaps with an index of those that have a bit set.
use Rattle.std.specs.Prelude.{ℕ, Bool, not, List, count_by, Option, Some, None, slice_set, ◌==◌}

-- a bitmap has a bit that is set
abbrev pub has_bits : List Bool → Bool
has_bits row = not (count_by (λ b. b) row == 0)

-- an index whose entry i is updated to a bitmap, if there is one
abbrev pub settle : List Bool → ℕ → Option (List Bool) → List Bool
settle busy i None = busy
settle busy i (Some row) = slice_set busy i (has_bits row)
