-- A frame that is claimed twice, or doesn't exist.
use Rattle.std.proofs.Common.{cond, ◌≡◌, ◌<◌, ◌≤◌, ◌⊎◌, inl, inr, ℕ, ◌+◌, Bool, true, false, List, length, take}
use Rattle.std.proofs.Common.{get_or, Option, Some, eq-eqb, eqb, MatchBool, ltb, refl, sym, ap, ◌∙◌, arith}
use Rattle.std.specs.List.{count_by}
use Rattle.std.proofs.lemmas.List.Sums.{count_by_more_yes, sum_by-take-le}
use Rattle.std.proofs.lemmas.Bool.{le-ltb, lt-ltb}
use Rattle.verify.specs.Soundness.{as_number, is_frame, uses_of, IsOnce}
use Rattle.verify.specs.Images.{ImageData, PageData}

-- a Boolean counts at most once
as_number_most : (b : Bool) → as_number b ≤ 1
as_number_most true = omega arith
as_number_most false = omega arith

-- a count that meets an element that was noted, or doesn't exist, is too high
pub over_claimed : {X : Type 0} (p : X → Bool) (xs : List X) (k : ℕ) (d : X) (seen : Bool) (f m n base : ℕ)
    → k < length xs → p (get_or xs k d) ≡ true → base + count_by p (take k xs) ≡ as_number seen
    → (seen ≡ true) ⊎ (m ≤ f) → m ≡ n → as_number (ltb f n) < base + count_by p xs
over_claimed p xs k d seen f m n base l h e s q =
    let more = count_by_more_yes p xs k d l h in
    let le = sum_by-take-le (λ x. cond (p x) 1 0) xs (k + 1) in
    elim s [
      | inl t ↦ let one : base + count_by p (take k xs) ≡ 1 = e ∙ ap as_number t in
          let most = as_number_most (ltb f n) in omega arith
      | inr g ↦ rw (le-ltb f n (omega arith)) (omega arith)
    ]

-- the same, if nothing was counted before
pub over_claimed_first : {X : Type 0} (p : X → Bool) (xs : List X) (k : ℕ) (d : X) (seen : Bool) (f m n : ℕ)
    → k < length xs → p (get_or xs k d) ≡ true → count_by p (take k xs) ≡ as_number seen
    → (seen ≡ true) ⊎ (m ≤ f) → m ≡ n → as_number (ltb f n) < count_by p xs
over_claimed_first p xs k d seen f m n l h e s q =
    let x = over_claimed p xs k d seen f m n 0 l h (omega arith) s q in omega arith

-- a page has its own frame
pub frame_here : (o : Option ℕ) (f : ℕ) → o ≡ Some f → is_frame f o ≡ true
frame_here o f e = rw e (eq-eqb f f refl)

-- frames that were all noted without a clash each exist once
pub once_seen : (i : ImageData) (r : Bool) (ps : List PageData) (fs : List ℕ) (u v : List Bool) → ps ≡ i.pages
    → fs ≡ i.free
    → ((f : ℕ) → count_by (λ p. is_frame f p.frame) ps ≡ as_number (get_or u f false))
    → ((f : ℕ) → as_number (get_or u f false) + count_by (λ g. eqb g f) fs ≡ as_number (get_or v f false))
    → length v ≡ i.frame_count
    → MatchBool r ((f : ℕ) → get_or v f false ≡ ltb f (length v))
    ((f : ℕ) × (f < length v) × (get_or v f false ≡ false))
    → MatchBool r (IsOnce i) (IsOnce i → ⊥)
once_seen i true ps fs u v e d p q n t = λ f. together f ∙ ap as_number (t f ∙ ap (ltb f) n)
  where
    together : (f : ℕ) → uses_of i f ≡ as_number (get_or v f false)
    together f = rw (← e, ← d) (ap (λ x. x + count_by (λ g. eqb g f) fs) (p f) ∙ q f)
once_seen i false ps fs u v e d p q n t = λ h.
    let a : as_number (get_or v t.0 false) ≡ as_number (ltb t.0 i.frame_count) = sym (together t.0) ∙ h t.0 in
    absurd (zero_one (sym (ap as_number t.2) ∙ a ∙ ap as_number (lt-ltb t.0 i.frame_count (rw (← n) t.1))))
  where
    together : (f : ℕ) → uses_of i f ≡ as_number (get_or v f false)
    together f = rw (← e, ← d) (ap (λ x. x + count_by (λ g. eqb g f) fs) (p f) ∙ q f)

    zero_one : as_number false ≡ as_number true → ⊥
    zero_one h = omega (arith, h)
