-- Elements of a list that are changed one after another.
use Rattle.std.proofs.Common.{◌≡◌, ℕ, zero, suc, Bool, List, [], ◌∷◌, set, Option, Some, None, refl, sym, ◌∙◌, ap}
use Rattle.std.specs.List.{slice_get}
use Rattle.sequences.specs.Elements.{change_at, change_found}

abbrev pub alter : {X : Type 0} → List X → ℕ → (X → X) → List X
alter [] i f = []
alter (x ∷ xs) zero f = f x ∷ xs
alter (x ∷ xs) (suc i) f = x ∷ alter xs i f

pub changed_is : {X : Type 0} (xs : List X) (i : ℕ) (f : X → X) → change_at xs i f ≡ alter xs i f
changed_is [] i f = refl
changed_is (x ∷ xs) zero f = refl
changed_is {X} (x ∷ xs) (suc i) f = more (slice_get xs i) ∙ ap (λ ys. x ∷ ys) (changed_is xs i f)
  where
    more : (o : Option X) → change_found (x ∷ xs) (suc i) o f ≡ x ∷ change_found xs i o f
    more None = refl
    more (Some y) = refl

alter_two : {X : Type 0} (xs : List X) (i j : ℕ) (f g : X → X) → ((x : X) → i ≡ j → g (f x) ≡ f (g x))
    → alter (alter xs i f) j g ≡ alter (alter xs j g) i f
alter_two [] i j f g k = refl
alter_two (x ∷ xs) zero zero f g k = ap (λ y. y ∷ xs) (k x refl)
alter_two (x ∷ xs) zero (suc j) f g k = refl
alter_two (x ∷ xs) (suc i) zero f g k = refl
alter_two (x ∷ xs) (suc i) (suc j) f g k = ap (λ ys. x ∷ ys) (alter_two xs i j f g (λ y e. k y (ap suc e)))

-- two changes, of two elements or in any order
pub changed_two : {X : Type 0} (xs : List X) (i j : ℕ) (f g : X → X) → ((x : X) → i ≡ j → g (f x) ≡ f (g x))
    → change_at (change_at xs i f) j g ≡ change_at (change_at xs j g) i f
changed_two xs i j f g k =
    changed_is (change_at xs i f) j g ∙ ap (λ ys. alter ys j g) (changed_is xs i f) ∙ alter_two xs i j f g k
    ∙ sym (changed_is (change_at xs j g) i f ∙ ap (λ ys. alter ys i f) (changed_is xs j g))

-- two changes of one element, the first of which has no effect after the second
pub changed_again : {X : Type 0} (xs : List X) (i : ℕ) (f g h : X → X) → ((x : X) → g (f x) ≡ h x)
    → change_at (change_at xs i f) i g ≡ change_at xs i h
changed_again {X = X} xs i f g h k =
    changed_is (change_at xs i f) i g ∙ ap (λ ys. alter ys i g) (changed_is xs i f) ∙ alter_again xs i
    ∙ sym (changed_is xs i h)
  where
    alter_again : (ys : List X) (n : ℕ) → alter (alter ys n f) n g ≡ alter ys n h
    alter_again [] n = refl
    alter_again (y ∷ ys) zero = ap (λ z. z ∷ ys) (k y)
    alter_again (y ∷ ys) (suc n) = ap (λ zs. y ∷ zs) (alter_again ys n)

-- a change of an element that is there
pub changed_there : {X : Type 0} (xs : List X) (i : ℕ) (x : X) (f : X → X) → slice_get xs i ≡ Some x
    → change_at xs i f ≡ set xs i (f x)
changed_there xs i x f e = ap (λ o. change_found xs i o f) e

-- a bit that is set already
pub set_again : (row : List Bool) (i : ℕ) (d : Bool) → slice_get row i ≡ Some d → set row i d ≡ row
set_again [] i d e = refl
set_again (b ∷ bs) zero d e = ap (λ c. c ∷ bs) (sym (first e))
  where
    first : Some b ≡ Some d → b ≡ d
    first f = cc
set_again (b ∷ bs) (suc i) d e = ap (λ cs. b ∷ cs) (set_again bs i d e)
