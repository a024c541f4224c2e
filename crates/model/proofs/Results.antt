-- What follows from an accepted result.
use Rattle.std.proofs.Common.{◌≡◌, Bool, true, false, cond, Result, Ok, Err, refl}

-- a test whose failure would be an error didn't fail
pub not_refused : {A E : Type 0} (b : Bool) (e : E) (r : Result A E) (y : A) → cond b (Err e) r ≡ Ok y
    → (b ≡ false) × (r ≡ Ok y)
not_refused true e r y h = absurd (cc)
not_refused false e r y h = (refl, h)

-- equal accepted results have equal values
pub same_result : {A E : Type 0} (x y : A) → ◌≡◌ {A = Result A E} (Ok x) (Ok y) → x ≡ y
same_result x y h = cc
