-- Elements of a list that are put into another one, each at its own place.
use Rattle.std.proofs.Common.{◌≡◌, ◌≢◌, ◌⊎◌, inl, inr, ℕ, zero, suc, ◌+◌, ◌<◌, ◌≤◌, List, [], ◌∷◌, get_or, set, map}
use Rattle.std.proofs.Common.{length, Option, Some, None, refl, sym, ◌∙◌, ap, arith}
use Rattle.std.specs.List.{slice_get}
use Rattle.std.proofs.Math.ListN.{length-set}
use Rattle.std.proofs.lemmas.List.{set-set, set-get_or}
use Rattle.std.proofs.lemmas.Option.{same_Some}
use Rattle.model.proofs.Lists.{get_set_same, get_set_other, get_within}
use Rattle.page.proofs.Changes.{set_two}

-- a list with another element at a place, if there is a place
abbrev pub set_in : {X : Type 0} → List X → Option ℕ → X → List X
set_in xs None v = xs
set_in xs (Some f) v = set xs f v

-- a list with others' elements at the places of numbers, from one on
abbrev pub put_all : {X : Type 0} → (ℕ → Option ℕ) → List X → ℕ → List X → List X
put_all place xs i [] = xs
put_all place xs i (v ∷ vs) = set_in (put_all place xs (i + 1) vs) (place i) v

-- no two numbers have the same place
abbrev pub AreDistinct : (ℕ → Option ℕ) → Type 0
AreDistinct place = (i j f : ℕ) → place i ≡ Some f → place j ≡ Some f → i ≡ j

-- ---- two places

in_two : {X : Type 0} (xs : List X) (o : Option ℕ) (f : ℕ) (u v : X) → o ≢ Some f
    → set (set_in xs o u) f v ≡ set_in (set xs f v) o u
in_two xs None f u v d = refl
in_two xs (Some g) f u v d = set_two xs g f u v (λ e. absurd (d (ap Some e)))

ins_two : {X : Type 0} (xs : List X) (o q : Option ℕ) (u v : X) → ((f : ℕ) → q ≡ Some f → o ≢ Some f)
    → set_in (set_in xs o u) q v ≡ set_in (set_in xs q v) o u
ins_two xs o None u v d = refl
ins_two xs o (Some f) u v d = in_two xs o f u v (d f refl)

in_again : {X : Type 0} (xs : List X) (o : Option ℕ) (f : ℕ) (u v : X) → o ≡ Some f
    → set (set_in xs o u) f v ≡ set_in xs o v
in_again xs None f u v e = absurd (cc)
in_again xs (Some g) f u v e =
    ap (λ n. set (set xs g u) n v) (sym (same_Some _ _ e)) ∙ set-set xs g u v

-- one element is replaced after all were put
pub set_all : {X : Type 0} (place : ℕ → Option ℕ) (xs vs : List X) (i j k f : ℕ) (v : X) → AreDistinct place
    → place j ≡ Some f → j ≡ i + k → k < length vs
    → set (put_all place xs i vs) f v ≡ put_all place xs i (set vs k v)
set_all place xs [] i j k f v d there e l = absurd (omega (arith, l))
set_all place xs (u ∷ vs) i j zero f v d there e l =
    let same : i ≡ j = omega (arith, e) in
    in_again (put_all place xs (i + 1) vs) (place i) f u v (ap place same ∙ there)
set_all place xs (u ∷ vs) i j (suc k) f v d there e l =
    in_two (put_all place xs (i + 1) vs) (place i) f u v (λ z. absurd (omega (arith, d i j f z there, e)))
    ∙ ap (λ ys. set_in ys (place i) u)
    (set_all place xs vs (i + 1) j k f v d there (omega (arith, e)) (omega (arith, l)))

-- an element is put before the others
pub put_first : {X : Type 0} (place : ℕ → Option ℕ) (xs vs : List X) (i j : ℕ) (v : X) → AreDistinct place → i < j
    → put_all place (set_in xs (place i) v) j vs ≡ set_in (put_all place xs j vs) (place i) v
put_first place xs [] i j v d l = refl
put_first place xs (u ∷ vs) i j v d l =
    ap (λ ys. set_in ys (place j) u) (put_first place xs vs i (j + 1) v d (omega (arith, l)))
    ∙ ins_two (put_all place xs (j + 1) vs) (place i) (place j) v u
    (λ f z y. absurd (omega (arith, d i j f y z, l)))

-- ---- what is read

in_length : {X : Type 0} (xs : List X) (o : Option ℕ) (v : X) → length (set_in xs o v) ≡ length xs
in_length xs None v = refl
in_length xs (Some f) v = length-set xs f v

pub put_length : {X : Type 0} (place : ℕ → Option ℕ) (xs vs : List X) (i : ℕ)
    → length (put_all place xs i vs) ≡ length xs
put_length place xs [] i = refl
put_length place xs (v ∷ vs) i = in_length (put_all place xs (i + 1) vs) (place i) v ∙ put_length place xs vs (i + 1)

in_here : {X : Type 0} (xs : List X) (o : Option ℕ) (f : ℕ) (v : X) → o ≡ Some f → f < length xs
    → slice_get (set_in xs o v) f ≡ Some v
in_here xs None f v e l = absurd (cc)
in_here xs (Some g) f v e l =
    let same = same_Some _ _ e in
    let (x, is) = get_within xs f l in
    ap (λ n. slice_get (set xs n v) f) same ∙ get_set_same xs f x v is

in_other : {X : Type 0} (xs : List X) (o : Option ℕ) (f : ℕ) (v : X) → o ≢ Some f
    → slice_get (set_in xs o v) f ≡ slice_get xs f
in_other xs None f v d = refl
in_other xs (Some g) f v d = get_set_other xs g f v (λ e. d (ap Some (sym e)))

pub put_read : {X : Type 0} (place : ℕ → Option ℕ) (xs vs : List X) (i j k f : ℕ) (v : X) → AreDistinct place
    → place j ≡ Some f → j ≡ i + k → f < length xs → slice_get vs k ≡ Some v
    → slice_get (put_all place xs i vs) f ≡ Some v
put_read place xs [] i j k f v d there e l is = absurd (cc)
put_read place xs (u ∷ vs) i j zero f v d there e l is =
    let same : i ≡ j = omega (arith, e) in
    in_here (put_all place xs (i + 1) vs) (place i) f u (ap place same ∙ there)
    (omega (arith, l, put_length place xs vs (i + 1))) ∙ is
put_read place xs (u ∷ vs) i j (suc k) f v d there e l is =
    in_other (put_all place xs (i + 1) vs) (place i) f u (λ z. absurd (omega (arith, d i j f z there, e)))
    ∙ put_read place xs vs (i + 1) j k f v d there (omega (arith, e)) l is

-- what is at the places of other numbers stays
pub put_other : {X : Type 0} (place : ℕ → Option ℕ) (xs vs : List X) (i j f : ℕ) → AreDistinct place
    → place j ≡ Some f → (j < i) ⊎ (i + length vs ≤ j) → slice_get (put_all place xs i vs) f ≡ slice_get xs f
put_other place xs [] i j f d there l = refl
put_other place xs (v ∷ vs) i j f d there (inl l) =
    in_other (put_all place xs (i + 1) vs) (place i) f v (λ z. absurd (omega (arith, d i j f z there, l)))
    ∙ put_other place xs vs (i + 1) j f d there (inl (omega (arith, l)))
put_other place xs (v ∷ vs) i j f d there (inr l) =
    in_other (put_all place xs (i + 1) vs) (place i) f v (λ z. absurd (omega (arith, d i j f z there, l)))
    ∙ put_other place xs vs (i + 1) j f d there (inr (omega (arith, l)))

-- ---- what is there already

-- each of these is what is at its place
abbrev pub AreThere : {X : Type 0} → X → (ℕ → Option ℕ) → List X → ℕ → List X → Type 0
AreThere none place xs i [] = Unit {0}
AreThere none place xs i (v ∷ vs) =
    ((f : ℕ) → place i ≡ Some f → v ≡ get_or xs f none) × AreThere none place xs (i + 1) vs

pub put_same : {X : Type 0} (none : X) (place : ℕ → Option ℕ) (xs vs : List X) (i : ℕ)
    → AreThere none place xs i vs → put_all place xs i vs ≡ xs
put_same none place xs [] i k = refl
put_same {X} none place xs (v ∷ vs) i k =
    ap (λ ys. set_in ys (place i) v) (put_same none place xs vs (i + 1) k.1) ∙ by_place (place i) k.0
  where
    by_place : (o : Option ℕ) → ((f : ℕ) → o ≡ Some f → v ≡ get_or xs f none) → set_in xs o v ≡ xs
    by_place None e = refl
    by_place (Some f) e = ap (set xs f) (e f refl) ∙ set-get_or xs f none

-- each list is as long as that at its place
abbrev pub AreSized : {X : Type 0} → (ℕ → Option ℕ) → List (List X) → ℕ → List (List X) → Type 0
AreSized place xs i [] = Unit {0}
AreSized place xs i (v ∷ vs) =
    ((f : ℕ) → place i ≡ Some f → length v ≡ length (get_or xs f [])) × AreSized place xs (i + 1) vs

set_lengths : {X : Type 0} (xs : List (List X)) (f : ℕ) (v : List X)
    → map length (set xs f v) ≡ set (map length xs) f (length v)
set_lengths [] f v = refl
set_lengths (x ∷ xs) zero v = refl
set_lengths (x ∷ xs) (suc f) v = ap (λ ns. length x ∷ ns) (set_lengths xs f v)

pub put_lengths : {X : Type 0} (place : ℕ → Option ℕ) (xs vs : List (List X)) (i : ℕ) → AreSized place xs i vs
    → map length (put_all place xs i vs) ≡ map length xs
put_lengths place xs [] i k = refl
put_lengths {X} place xs (v ∷ vs) i k = by_place (place i) k.0 (put_lengths place xs vs (i + 1) k.1)
  where
    by_place : (o : Option ℕ) → ((f : ℕ) → o ≡ Some f → length v ≡ length (get_or xs f []))
        → map length (put_all place xs (i + 1) vs) ≡ map length xs
        → map length (set_in (put_all place xs (i + 1) vs) o v) ≡ map length xs
    by_place None e rest = rest
    by_place (Some f) e rest =
        set_lengths (put_all place xs (i + 1) vs) f v
        ∙ (λ z. set (rest z) f (e f refl z))
        ∙ sym (set_lengths xs f (get_or xs f []))
        ∙ ap (map length) (set-get_or xs f [])
