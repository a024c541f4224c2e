-- Lists made by numbers: their elements, and how often one occurs.
use Rattle.std.proofs.Common.{◌≡◌, ◌⊎◌, inl, inr, ◌<◌, ◌≤◌, ℕ, zero, suc, ◌+◌, Bool, true, false, cond, eqb}
use Rattle.std.proofs.Common.{List, [], ◌∷◌, length, map, Option, Some, None, refl, sym, ap, ap₂, ◌∙◌, arith}
use Rattle.std.specs.List.{slice_get, filter, count_by, range_with_len}
use Rattle.std.specs.Option.{option_map, option_and_then}
use Rattle.std.proofs.lemmas.Option.{none-some, same_Some, slice_get-map}
use Rattle.std.proofs.lemmas.Bool.{cases_eq, eq-eqb, ne_eqb, false_from_ne_true}
use Rattle.std.proofs.lemmas.List.Sums.{sum_by-cons}
use Rattle.verify.specs.Soundness.{as_number}

-- if a search of what was found has a result, that was found first
pub found_first : {X Y : Type 0} (f : X → Option Y) (o : Option X) (y : Y) → option_and_then f o ≡ Some y
    → (x : X) × (o ≡ Some x) × (f x ≡ Some y)
found_first f None y e = absurd (none-some y e)
found_first f (Some x) y e = (x, refl, e)

-- if what is made of what was found exists, that was found first
pub mapped_first : {X Y : Type 0} (f : X → Y) (o : Option X) (y : Y) → option_map f o ≡ Some y
    → (x : X) × (o ≡ Some x) × (f x ≡ y)
mapped_first f None y e = absurd (none-some y e)
mapped_first f (Some x) y e = (x, refl, same_Some (f x) y e)

-- if a conditional has a result, its test holds
pub tested : {X : Type 0} (b : Bool) (o : Option X) (x : X) → cond b o None ≡ Some x → (b ≡ true) × (o ≡ Some x)
tested true o x e = (refl, e)
tested false o x e = absurd (none-some x e)

-- an element of a mapped list is made of the element of that index
pub mapped_from : {X Y : Type 0} (f : X → Y) (xs : List X) (i : ℕ) (y : Y) → slice_get (map f xs) i ≡ Some y
    → (x : X) × (slice_get xs i ≡ Some x) × (f x ≡ y)
mapped_from f xs i y e = mapped_first f (slice_get xs i) y (sym (slice_get-map f xs i) ∙ e)

-- a list made by numbers from o on, one for each element of another list, has the number of each index
pub numbered : {X Y : Type 0} (f : ℕ → Y) (xs : List X) (o i j : ℕ) → j ≡ o + i
    → slice_get (map f (range_with_len o (length xs))) i ≡ option_map (λ x. f j) (slice_get xs i)
numbered f [] o i j e = refl
numbered f (x ∷ xs) o zero j e = ap (λ n. Some (f n)) (omega arith)
numbered f (x ∷ xs) o (suc i) j e = numbered f xs (o + 1) i j (omega arith)

-- if no element passes, none is counted
pub count_none : {X : Type 0} (p : X → Bool) (xs : List X)
    → ((i : ℕ) (x : X) → slice_get xs i ≡ Some x → p x ≡ false) → count_by p xs ≡ 0
count_none p [] h = refl
count_none p (x ∷ xs) h =
    sum_by-cons (λ y. cond (p y) 1 0) x xs
    ∙ ap₂ (λ b n. cond b 1 0 + n) (h 0 x refl) (count_none p xs (λ i y e. h (suc i) y e))

-- if one passes, and no other does, one is counted
pub count_one : {X : Type 0} (p : X → Bool) (xs : List X) (i : ℕ) (x : X) → slice_get xs i ≡ Some x → p x ≡ true
    → ((j : ℕ) (y : X) → slice_get xs j ≡ Some y → p y ≡ true → j ≡ i) → count_by p xs ≡ 1
count_one p [] i x e t h = absurd (none-some x e)
count_one p (y ∷ ys) zero x e t h =
    sum_by-cons (λ z. cond (p z) 1 0) y ys
    ∙ ap₂ (λ b n. cond b 1 0 + n) (ap p (same_Some y x e) ∙ t)
    (count_none p ys (λ j z f. false_from_ne_true (p z) (λ g. let k = h (suc j) z f g in omega arith)))
count_one p (y ∷ ys) (suc i) x e t h =
    sum_by-cons (λ z. cond (p z) 1 0) y ys
    ∙ ap₂ (λ b n. cond b 1 0 + n) (false_from_ne_true (p y) (λ g. let k = h 0 y refl g in omega arith))
    (count_one p ys i x e t (λ j z f g. let k = h (suc j) z f g in omega arith))

-- how often a number is in a filtered list whose first element is another number
before_other : (f x : ℕ) (b : Bool) (xs : List ℕ) → eqb x f ≡ false
    → count_by (λ g. eqb g f) (cond b (x ∷ xs) xs) ≡ count_by (λ g. eqb g f) xs
before_other f x true xs e =
    sum_by-cons (λ g. cond (eqb g f) 1 0) x xs ∙ ap (λ b. cond b 1 0 + count_by (λ g. eqb g f) xs) e ∙ omega arith
before_other f x false xs e = refl

-- the same, if the first element is that number, which isn't in the rest
before_same : (f x : ℕ) (b : Bool) (xs : List ℕ) → eqb x f ≡ true → count_by (λ g. eqb g f) xs ≡ 0
    → count_by (λ g. eqb g f) (cond b (x ∷ xs) xs) ≡ as_number b
before_same f x true xs e z =
    sum_by-cons (λ g. cond (eqb g f) 1 0) x xs ∙ ap₂ (λ b n. cond b 1 0 + n) e z
before_same f x false xs e z = z

-- a number that isn't among n from o on isn't among those of them that pass
pub never_filtered : (p : ℕ → Bool) (f o n : ℕ) → (f < o) ⊎ (o + n ≤ f)
    → count_by (λ g. eqb g f) (filter p (range_with_len o n)) ≡ 0
never_filtered p f o zero m = refl
never_filtered p f o (suc n) m =
    before_other f o (p o) _ (ne_eqb o f (λ e. elim m [ inl l ↦ omega arith | inr l ↦ omega arith ]))
    ∙ never_filtered p f (o + 1) n (elim m [ inl l ↦ inl (omega arith) | inr l ↦ inr (omega arith) ])

-- a number that is among them is once among those that pass if it passes, else not
pub once_filtered : (p : ℕ → Bool) (f o n : ℕ) → o ≤ f → f < o + n
    → count_by (λ g. eqb g f) (filter p (range_with_len o n)) ≡ as_number (p f)
once_filtered p f o zero l m = absurd (omega arith)
once_filtered p f o (suc n) l m = elim (cases_eq o f) [
  | inl e ↦
      before_same f o (p o) _ (eq-eqb o f e) (never_filtered p f (o + 1) n (inl (omega arith)))
      ∙ ap (λ g. as_number (p g)) e
  | inr d ↦
      before_other f o (p o) _ (ne_eqb o f d) ∙ once_filtered p f (o + 1) n (omega (arith, d)) (omega arith)
]

-- an element of a filtered list passes
kept_by : (p : ℕ → Bool) (y : ℕ) (b : Bool) → p y ≡ b → (ys : List ℕ)
    → ((i x : ℕ) → slice_get ys i ≡ Some x → p x ≡ true)
    → (i x : ℕ) → slice_get (cond b (y ∷ ys) ys) i ≡ Some x → p x ≡ true
kept_by p y true e ys k zero x f = ap p (sym (same_Some y x f)) ∙ e
kept_by p y true e ys k (suc i) x f = k i x f
kept_by p y false e ys k i x f = k i x f

pub filtered_passes : (p : ℕ → Bool) (xs : List ℕ) (i x : ℕ) → slice_get (filter p xs) i ≡ Some x → p x ≡ true
filtered_passes p [] i x e = absurd (none-some x e)
filtered_passes p (y ∷ ys) i x e = kept_by p y (p y) refl (filter p ys) (filtered_passes p ys) i x e
