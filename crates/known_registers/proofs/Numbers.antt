-- Threads in their order.
use Rattle.std.proofs.Common.{◌≡◌, ◌+◌, ◌++◌, ◌∷◌, [], ℕ, zero, suc, List, arith, length, ap}
use Rattle.std.specs.List.{range_with_len}

abbrev first_of : ℕ → List ℕ → ℕ
first_of d [] = d
first_of d (x ∷ xs) = x

abbrev rest_of : List ℕ → List ℕ
rest_of [] = []
rest_of (x ∷ xs) = xs

-- in a list of numbers that rise by one, the number after those of a prefix
pub number_at : (ys rest : List ℕ) (s a n : ℕ) → ys ++ s ∷ rest ≡ range_with_len a n → s ≡ a + length ys
number_at [] rest s a zero e = absurd (cc)
number_at [] rest s a (suc n) e = let is : s ≡ a = ap (first_of a) e in omega (arith, is)
number_at (y ∷ ys) rest s a zero e = absurd (cc)
number_at (y ∷ ys) rest s a (suc n) e =
    let is : s ≡ a + 1 + length ys = number_at ys rest s (a + 1) n (ap rest_of e) in omega (arith, is)
