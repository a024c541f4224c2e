-- The live objects of a page, of which a draft is made.
use Rattle.std.specs.Prelude.{◌≡◌, ℕ, ◌≤◌, Bool, false, List, length, count_by, replicate}
use Rattle.model.specs.declared.limits.TheConstants.{MOST_WORDS}

-- the live bitmap of a page, and the sizes of its objects
pub record ObjectsState : Type 0 where
  pub live : List Bool
  pub sizes : List ℕ

-- there is a size for each live object of a page, and a flag, which isn't set
pub record AreObjects (live : List Bool) (sizes : List ℕ) (copied : List Bool) : Type 0 where
  pub short : length live ≤ MOST_WORDS
  pub many : length sizes ≡ count_by (λ b. b) live
  pub flags : copied ≡ replicate (length sizes) false
