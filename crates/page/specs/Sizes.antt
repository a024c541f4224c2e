-- The number of words of a page, as a shift and a mask.
use Rattle.std.specs.Prelude.{◌≡◌, ◌≤◌, ◌-◌, ◌^◌, ℕ}
use Rattle.page.specs.declared.size.PageSize.TheInside.{Inside}

-- the number of words
abbrev pub size_of : Inside → ℕ
size_of p = 2 ^ p.shift

-- the exponent is in range, and the mask has the bits below the power
pub record IsSize (p : Inside) : Type 0 where
  pub range : p.shift ≤ 15
  pub mask : p.mask ≡ 2 ^ p.shift - 1
