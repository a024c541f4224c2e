-- Bitmaps that are cleared at once: their bits are dropped, and made anew when one is set.
use Rattle.std.specs.Prelude.{◌≡◌, ◌⊎◌, ℕ, ◌-◌, ◌<◌, Bool, false, List, [], ◌++◌, length, replicate}

-- n bits, of which these are the first, and the others are clear
abbrev pub padded : ℕ → List Bool → List Bool
padded n bits = bits ++ replicate (n - length bits) false

-- all n bits are there, or none is and n spare ones are kept; for no bits any spare ones
abbrev pub AreThere : ℕ → List Bool → List Bool → Type 0
AreThere n bits spare = ((length bits ≡ n) × (spare ≡ [])) ⊎ ((bits ≡ []) × (0 < n → length spare ≡ n))
