-- Texts of a list's elements, of which the first few are written.
use Rattle.std.proofs.Common.{◌≡◌, ℕ, ◌+◌, ◌<◌, ◌≤◌, List, [], ◌∷◌, ◌++◌, length, take, get_or, arith}
use Rattle.std.proofs.Common.{sym, ◌∙◌, ap, append_assoc, append-nil}
use Rattle.std.proofs.lemmas.List.{take_more, take_all, length-take-le}
use Rattle.reporting.specs.Lines.{texts_from}

-- one element more, at the end
texts_behind : {X : Type 0} (f : ℕ → X → List ℕ) (k o : ℕ) (xs : List X) (x : X) → o ≡ k + length xs
    → texts_from f k (xs ++ x ∷ []) ≡ texts_from f k xs ++ f o x
unfolding texts_from
texts_behind f k o [] x e = append-nil (f k x) ∙ ap (λ n. f n x) (omega (arith, e))
texts_behind f k o (y ∷ ys) x e =
    ap (λ t. f k y ++ t) (texts_behind f (k + 1) o ys x (omega (arith, e)))
    ∙ sym (append_assoc (f k y) (texts_from f (k + 1) ys) (f o x))

-- the first elements, with the next one
pub texts_more : {X : Type 0} (f : ℕ → X → List ℕ) (xs : List X) (i : ℕ) (d : X) → i < length xs
    → texts_from f 0 (take i xs) ++ f i (get_or xs i d) ≡ texts_from f 0 (take (i + 1) xs)
texts_more f xs i d low =
    sym (ap (λ ys. texts_from f 0 ys) (take_more xs i d low)
    ∙ texts_behind f 0 i (take i xs) (get_or xs i d) (omega (arith, length-take-le i xs (omega (arith, low)))))

-- all of them
pub texts_all : {X : Type 0} (f : ℕ → X → List ℕ) (xs : List X) (i : ℕ) → length xs ≤ i
    → texts_from f 0 (take i xs) ≡ texts_from f 0 xs
texts_all f xs i past = ap (λ ys. texts_from f 0 ys) (take_all i xs past)
