-- A page's element of a list with one element for each record.
use Rattle.std.proofs.Common.{◌≡◌, ℕ, zero, suc, ◌-◌, ◌<◌, List, [], ◌∷◌, Some, None, get_or, refl, ◌∙◌, ap, arith}
use Rattle.std.specs.List.{slice_get}
use Rattle.std.proofs.lemmas.Option.{get_or_from_slice_get}
use Rattle.model.specs.Bits.{of_page}

less_one : (i : ℕ) → i ≡ suc i - 1
less_one i = omega arith

-- a page has an empty element if its index is past the list
pub of_page_none : {X : Type 0} (xs : List (List X)) (n : ℕ) → 0 < n → slice_get xs (n - 1) ≡ None → of_page xs n ≡ []
of_page_none xs zero l e = absurd (omega (arith, l))
of_page_none xs (suc i) l e = read_none xs i (ap (slice_get xs) (less_one i) ∙ e)
  where
    read_none : {X : Type 0} (xs : List (List X)) (i : ℕ) → slice_get xs i ≡ None → get_or xs i [] ≡ []
    read_none [] i e = refl
    read_none (x ∷ xs) zero e = absurd (cc)
    read_none (x ∷ xs) (suc i) e = read_none xs i e

-- else it has the element at its index
pub of_page_some : {X : Type 0} (xs : List (List X)) (n : ℕ) (x : List X) → 0 < n → slice_get xs (n - 1) ≡ Some x
    → of_page xs n ≡ x
of_page_some xs zero x l e = absurd (omega (arith, l))
of_page_some xs (suc i) x l e = get_or_from_slice_get xs i x [] (ap (slice_get xs) (less_one i) ∙ e)
