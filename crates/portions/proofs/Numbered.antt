-- Numbers from 0.
use Rattle.std.proofs.Common.{◌≡◌, ◌+◌, ◌++◌, ◌∙◌, ◌∷◌, [], ℕ, List, arith, map, refl, sym, ap}
use Rattle.std.specs.List.{range_with_len}
use Rattle.std.proofs.lemmas.List.FromFn.{map-range_with_len_more}

map_same : (xs : List ℕ) → map (λ (i : ℕ). i) xs ≡ xs
map_same [] = refl
map_same (x ∷ xs) = ap (λ (l : List ℕ). x ∷ l) (map_same xs)

-- one more number
pub numbers_more : (n : ℕ) → range_with_len 0 n ++ n ∷ [] ≡ range_with_len 0 (n + 1)
numbers_more n = ap (λ (l : List ℕ). l ++ n ∷ []) (sym (map_same (range_with_len 0 n)))
    ∙ (sym (map-range_with_len_more (λ (i : ℕ). i) 0 n n (omega arith)) ∙ map_same (range_with_len 0 (n + 1)))
