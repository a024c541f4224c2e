-- The first elements of a list that were changed, and the rest.
use Rattle.std.proofs.Common.{◌≡◌, ℕ, zero, suc, ◌≤◌, List, [], ◌∷◌, ◌++◌, length, take, refl, ap, arith}

pub front_again : {X : Type 0} (n m : ℕ) (a b rest : List X) → length a ≡ n → n ≤ m
    → take n (take m ((a ++ b) ++ rest)) ≡ a
front_again zero m [] b rest e l = refl
front_again zero m (x ∷ xs) b rest e l = absurd (omega (arith, e))
front_again (suc n) m [] b rest e l = absurd (omega (arith, e))
front_again (suc n) zero (x ∷ xs) b rest e l = absurd (omega (arith, l))
front_again (suc n) (suc m) (x ∷ xs) b rest e l =
    ap (λ ys. x ∷ ys) (front_again n m xs b rest (omega (arith, e)) (omega (arith, l)))
