-- Lists that are equal, lists with one element replaced, and lists of equal elements.
use Rattle.std.proofs.Common.{◌≡◌, ◌≢◌, ◌⊎◌, inl, inr, ℕ, zero, suc, ◌+◌, ◌<◌, Bool, true, false, List}
use Rattle.std.proofs.Common.{[], ◌∷◌, length, Option, Some, None, replicate, set, count_by, cond, get_or}
use Rattle.std.proofs.Common.{position, nat_lt, ◌*◌, ◌≤◌, ◌||◌, refl, sym, ◌∙◌, ap, ap₂, subst, arith, is_some}
use Rattle.std.specs.List.{slice_get, position_or_len, list_any}
use Rattle.std.proofs.lemmas.Bool.{or_parts}
use Rattle.std.proofs.lemmas.Option.{get_or_from_slice_get, slice_get_within, slice_get_read, same_Some}
use Rattle.std.proofs.lemmas.List.Sums.{sum_by-set, sum_by-cons, fails_before_first}
use Rattle.std.proofs.lemmas.List.Folds.{sum_by-replicate}
use Rattle.std.proofs.lemmas.List.Quantifiers.{position-Some}
use Rattle.std.proofs.lemmas.Bool.Decides.{nat_tests}
use Rattle.sequences.specs.Elements.{Each, change_at, change_found}

-- lists of one length that have the same in each place
pub same_lists : {X : Type 0} (xs ys : List X) → length xs ≡ length ys
    → ((i : ℕ) → i < length xs → slice_get xs i ≡ slice_get ys i) → xs ≡ ys
same_lists [] [] e h = refl
same_lists [] (y ∷ ys) e h = absurd (omega (arith, e))
same_lists (x ∷ xs) [] e h = absurd (omega (arith, e))
same_lists (x ∷ xs) (y ∷ ys) e h = ap₂ (λ z zs. z ∷ zs) (same_Some _ _ (h zero (omega arith)))
    (same_lists xs ys (omega (arith, e)) (λ i l. h (suc i) (omega (arith, l))))

pub get_set_same : {X : Type 0} (xs : List X) (i : ℕ) (x v : X) → slice_get xs i ≡ Some x
    → slice_get (set xs i v) i ≡ Some v
get_set_same [] i x v h = absurd (cc)
get_set_same (y ∷ ys) zero x v h = refl
get_set_same (y ∷ ys) (suc i) x v h = get_set_same ys i x v h

pub get_set_other : {X : Type 0} (xs : List X) (i j : ℕ) (v : X) → j ≢ i → slice_get (set xs i v) j ≡ slice_get xs j
get_set_other [] i j v h = refl
get_set_other (y ∷ ys) zero zero v h = absurd (h refl)
get_set_other (y ∷ ys) zero (suc j) v h = refl
get_set_other (y ∷ ys) (suc i) zero v h = refl
get_set_other (y ∷ ys) (suc i) (suc j) v h = get_set_other ys i j v (λ e. h (ap suc e))

-- an element of a list with one element replaced is the new one, or was there before
pub get_set : {X : Type 0} (xs : List X) (i j : ℕ) (v y : X) → slice_get (set xs i v) j ≡ Some y
    → ((j ≡ i) × (v ≡ y)) ⊎ ((j ≢ i) × (slice_get xs j ≡ Some y))
get_set [] i j v y h = absurd (cc)
get_set (x ∷ xs) zero zero v y h = inl (refl, cc)
get_set (x ∷ xs) zero (suc j) v y h = inr ((λ e. absurd (omega (arith, e))), h)
get_set (x ∷ xs) (suc i) zero v y h = inr ((λ e. absurd (omega (arith, e))), h)
get_set (x ∷ xs) (suc i) (suc j) v y h = up (get_set xs i j v y h)
  where
    up : ((j ≡ i) × (v ≡ y)) ⊎ ((j ≢ i) × (slice_get xs j ≡ Some y))
        → ((suc j ≡ suc i) × (v ≡ y)) ⊎ ((suc j ≢ suc i) × (slice_get xs j ≡ Some y))
    up (inl a) = inl (ap suc a.0, a.1)
    up (inr a) = inr ((λ e. a.0 (omega (arith, e))), a.1)

pub each_set : {X : Type 0} (P : X → Type 0) (xs : List X) (i : ℕ) (v : X) → Each xs P → P v → Each (set xs i v) P
each_set P xs i v h p j y e = go (get_set xs i j v y e)
  where
    go : ((j ≡ i) × (v ≡ y)) ⊎ ((j ≢ i) × (slice_get xs j ≡ Some y)) → P y
    go (inl a) = subst P a.1 p
    go (inr a) = h j y a.1

pub each_changed : {X : Type 0} (P : X → Type 0) (xs : List X) (i : ℕ) (change : X → X) → Each xs P
    → ((x : X) → P x → P (change x)) → Each (change_at xs i change) P
each_changed {X} P xs i change h k = by_element (slice_get xs i) refl
  where
    by_element : (o : Option X) → slice_get xs i ≡ o → Each (change_found xs i o change) P
    by_element None e = h
    by_element (Some x) e = each_set P xs i (change x) h (k x (h i x e))

pub get_replicate : {X : Type 0} (n : ℕ) (x : X) (i : ℕ) (y : X) → slice_get (replicate n x) i ≡ Some y → x ≡ y
get_replicate zero x i y h = absurd (cc)
get_replicate (suc n) x zero y h = cc
get_replicate (suc n) x (suc i) y h = get_replicate n x i y h

pub each_replicate : {X : Type 0} (P : X → Type 0) (n : ℕ) (x : X) → P x → Each (replicate n x) P
each_replicate P n x p i y h = subst P (get_replicate n x i y h) p

pub count_replicate : {X : Type 0} (p : X → Bool) (n : ℕ) (x : X) → count_by p (replicate n x) ≡ n * cond (p x) 1 0
count_replicate p n x = sum_by-replicate (λ y. cond (p y) 1 0) n x

-- a replaced element counts exactly if the new one does
pub count_set : {X : Type 0} (p : X → Bool) (xs : List X) (i : ℕ) (x v : X) → slice_get xs i ≡ Some x
    → count_by p (set xs i v) + cond (p x) 1 0 ≡ count_by p xs + cond (p v) 1 0
count_set p xs i x v h =
    let e : get_or xs i x ≡ x = get_or_from_slice_get xs i x x h in
    ap (λ y. count_by p (set xs i v) + cond (p y) 1 0) (sym e)
    ∙ sum_by-set (λ y. cond (p y) 1 0) xs i v x (slice_get_within xs i x h)

-- a place in a list, by its index
pub get_within : {X : Type 0} (xs : List X) (i : ℕ) → i < length xs → (x : X) × (slice_get xs i ≡ Some x)
get_within [] i h = absurd (omega arith)
get_within (x ∷ xs) zero h = (x, refl)
get_within (x ∷ xs) (suc i) h = get_within xs i (omega arith)

-- the first element that passes a test
pub position_passes : {X : Type 0} (p : X → Bool) (xs : List X) (i : ℕ) (x : X) → position p xs ≡ Some i
    → slice_get xs i ≡ Some x → p x ≡ true
position_passes p xs i x h e =
    let facts = position-Some p xs i x h in ap p (sym (get_or_from_slice_get xs i x x e)) ∙ facts.1

-- such an element exists
pub position_finds : {X : Type 0} (p : X → Bool) (xs : List X) (i : ℕ) → position p xs ≡ Some i
    → (x : X) × (slice_get xs i ≡ Some x)
position_finds p [] i h = absurd (cc)
position_finds p (x ∷ xs) i h = get_within (x ∷ xs) i (position-Some p (x ∷ xs) i x h).0

-- if no element passes a test, each fails it
pub none_passes : {X : Type 0} (p : X → Bool) (xs : List X) → list_any p xs ≡ false → Each xs (λ x. p x ≡ false)
none_passes p [] h i x e = absurd (cc)
none_passes p (x ∷ xs) h zero y e = ap p (sym (same_Some _ _ e)) ∙ (or_parts (p x) (list_any p xs) h).0
none_passes p (x ∷ xs) h (suc i) y e = none_passes p xs (or_parts (p x) (list_any p xs) h).1 i y e

pub none_far : (a b : ℕ) → cond (nat_lt a b) (Some a) None ≡ None → b ≤ a
none_far a b h = grind (arith, nat_tests)

-- if no position is found, each element fails the test
pub position_none : {X : Type 0} (p : X → Bool) (xs : List X) → position p xs ≡ None → Each xs (λ x. p x ≡ false)
position_none p xs h i x e =
    let far : length xs ≤ position_or_len p xs = none_far (position_or_len p xs) (length xs) h in
    let within : i < length xs = slice_get_within xs i x e in
    ap p (sym (get_or_from_slice_get xs i x x e)) ∙ fails_before_first p xs i x (omega arith)

-- a list is no longer than two counts together if each element counts in one of them
pub length_counted : {X : Type 0} (p q : X → Bool) (xs : List X) → Each xs (λ x. p x || q x ≡ true)
    → length xs ≤ count_by p xs + count_by q xs
length_counted p q [] h = omega arith
length_counted p q (x ∷ xs) h =
    let rest = length_counted p q xs (λ i y e. h (suc i) y e) in
    let here : p x || q x ≡ true = h zero x refl in
    let one : 1 ≤ cond (p x) 1 0 + cond (q x) 1 0 = counted (p x) (q x) here in
    omega (arith, sum_by-cons (λ y. cond (p y) 1 0) x xs, sum_by-cons (λ y. cond (q y) 1 0) x xs, rest, one)
  where
    counted : (a b : Bool) → a || b ≡ true → 1 ≤ cond a 1 0 + cond b 1 0
    counted true b e = omega arith
    counted false true e = omega arith
    counted false false e = absurd (cc)

pub no_some : {X : Type 0} (o : Option X) → is_some o ≡ false → o ≡ None
no_some None e = refl
no_some (Some x) e = absurd (cc)

abbrev pub as_number : Bool → ℕ
as_number b = cond b 1 0

-- if an element passes, the count is positive
pub count_positive : {X : Type 0} (p : X → Bool) (xs : List X) (i : ℕ) (x : X) → slice_get xs i ≡ Some x → p x ≡ true
    → 0 < count_by p xs
count_positive p [] i x h e = absurd (cc)
count_positive p (y ∷ ys) zero x h e =
    let here : p y ≡ true = ap p (same_Some _ _ h) ∙ e in
    let one : as_number (p y) ≡ as_number true = ap as_number here in
    omega (arith, sum_by-cons (λ z. cond (p z) 1 0) y ys, one)
count_positive p (y ∷ ys) (suc i) x h e =
    omega (arith, sum_by-cons (λ z. cond (p z) 1 0) y ys, count_positive p ys i x h e)

-- the element at an index that was read
pub get_read : {X : Type 0} (xs : List X) (i : ℕ) (x : X) → i < length xs → x ≡ get_or xs i x → slice_get xs i ≡ Some x
get_read xs i x h e = slice_get_read xs (length xs) i x refl h e

get_or_none : {X : Type 0} (xs : List X) (i : ℕ) (d : X) → slice_get xs i ≡ None → get_or xs i d ≡ d
get_or_none [] i d e = refl
get_or_none (x ∷ xs) zero d e = absurd (cc)
get_or_none (x ∷ xs) (suc i) d e = get_or_none xs i d e

-- if no bit is counted, none is set
pub none_counted : (row : List Bool) → count_by (λ b. b) row ≡ 0 → (i : ℕ) → get_or row i false ≡ false
none_counted row e i = by_bit (slice_get row i) refl
  where
    by_bit : (o : Option Bool) → slice_get row i ≡ o → get_or row i false ≡ false
    by_bit None f = get_or_none row i false f
    by_bit (Some false) f = get_or_from_slice_get row i false false f
    by_bit (Some true) f = absurd (omega (arith, e, count_positive (λ b. b) row i true f refl))
