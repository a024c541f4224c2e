-- The places of a plan follow one another.
use Rattle.std.proofs.Common.{◌≡◌, ◌⊎◌, inl, inr, ℕ, zero, suc, ◌+◌, ◌≤◌, Bool, true, false, cond, nat_le}
use Rattle.std.proofs.Common.{List, [], ◌∷◌, Some, refl, sym, ◌∙◌, ap, subst, arith}
use Rattle.std.specs.Prelude.{slice_get, take, drop}
use Rattle.std.specs.List.{sum_by}
use Rattle.std.proofs.lemmas.Bool.{leb-true, leb-false}
use Rattle.std.proofs.lemmas.List.Sums.{sum_by-cons}
use Rattle.std.proofs.lemmas.Option.{same_Some}
use Rattle.model.specs.Owning.{Each}
use Rattle.model.specs.Plans.{places_from}
use Rattle.model.proofs.Plans.{IsBefore, places_length, places_behind, places_apart, places_counted}
use Rattle.forward.specs.Places.{Follows, EndsBefore, ArePlanned}

-- the first of more places follows what ends where they begin
head_follows : (w t o e m n : ℕ) (ns : List ℕ) (q : ℕ × ℕ) → e ≡ o + m
    → slice_get (places_from w t e (n ∷ ns)) zero ≡ Some q → Follows w m n (t, o) q
head_follows w t o e m n ns q sum at = by_test (nat_le (e + n) w) refl at
  where
    by_test : (b : Bool) → nat_le (e + n) w ≡ b
        → slice_get (cond b ((t, e) ∷ places_from w t (e + n) ns) ((t + 1, 0) ∷ places_from w (t + 1) n ns)) zero
        ≡ Some q
        → Follows w m n (t, o) q
    by_test true b k = inl (omega (arith, sum, leb-true (e + n) w b), sym (same_Some _ _ k) ∙ ap (λ z. (t, z)) sum)
    by_test false b k = inr (omega (arith, sum, leb-false (e + n) w b), sym (same_Some _ _ k))

-- each place follows the one before
next_follows : (w t o : ℕ) (ns : List ℕ) (i m n : ℕ) (p q : ℕ × ℕ)
    → slice_get ns i ≡ Some m → slice_get (places_from w t o ns) i ≡ Some p
    → slice_get ns (suc i) ≡ Some n → slice_get (places_from w t o ns) (suc i) ≡ Some q → Follows w m n p q
next_follows w t o [] i m n p q e f g k = absurd (cc)
next_follows w t o (x ∷ []) i m n p q e f g k = absurd (cc)
next_follows w t o (x ∷ y ∷ ns) i m n p q e f g k =
    by_test (nat_le (o + x) w) i e f g k (next_follows w t (o + x) (y ∷ ns)) (next_follows w (t + 1) x (y ∷ ns))
  where
    places : Bool → List (ℕ × ℕ)
    places b = cond b ((t, o) ∷ places_from w t (o + x) (y ∷ ns)) ((t + 1, 0) ∷ places_from w (t + 1) x (y ∷ ns))

    Rest : ℕ → ℕ → Type 0
    Rest t o = (i m n : ℕ) (p q : ℕ × ℕ)
        → slice_get (y ∷ ns) i ≡ Some m → slice_get (places_from w t o (y ∷ ns)) i ≡ Some p
        → slice_get (y ∷ ns) (suc i) ≡ Some n → slice_get (places_from w t o (y ∷ ns)) (suc i) ≡ Some q
        → Follows w m n p q

    first : (t o e : ℕ) → e ≡ o + x → slice_get (places_from w t e (y ∷ ns)) zero ≡ Some q → x ≡ m → (t, o) ≡ p
        → y ≡ n → Follows w m n p q
    first t o e sum at is place next =
        subst (λ z. Follows w m z p q) next (subst (λ z. Follows w m y z q) place
        (subst (λ z. Follows w z y (t, o) q) is (head_follows w t o e x y ns q sum at)))

    by_test : (b : Bool) (i : ℕ)
        → slice_get (x ∷ y ∷ ns) i ≡ Some m → slice_get (places b) i ≡ Some p
        → slice_get (x ∷ y ∷ ns) (suc i) ≡ Some n → slice_get (places b) (suc i) ≡ Some q
        → Rest t (o + x) → Rest (t + 1) x → Follows w m n p q
    by_test true zero e f g k u v =
        first t o (o + x) refl k (same_Some _ _ e) (same_Some _ _ f) (same_Some _ _ g)
    by_test true (suc i) e f g k u v = u i m n p q e f g k
    by_test false zero e f g k u v =
        first (t + 1) 0 x (omega arith) k (same_Some _ _ e) (same_Some _ _ f) (same_Some _ _ g)
    by_test false (suc i) e f g k u v = v i m n p q e f g k

-- the first place is at the head of the first target
first_at_head : (w : ℕ) (ns : List ℕ) (n : ℕ) (p : ℕ × ℕ) → Each ns (λ n. n ≤ w)
    → slice_get ns zero ≡ Some n → slice_get (places_from w 0 0 ns) zero ≡ Some p → p ≡ (0, 0)
first_at_head w [] n p h e f = absurd (cc)
first_at_head w (x ∷ ns) n p h e f = by_test (nat_le (0 + x) w) refl f
  where
    by_test : (b : Bool) → nat_le (0 + x) w ≡ b
        → slice_get (cond b ((0, 0) ∷ places_from w 0 (0 + x) ns) ((0 + 1, 0) ∷ places_from w (0 + 1) x ns)) zero
        ≡ Some p
        → p ≡ (0, 0)
    by_test true b k = sym (same_Some _ _ k)
    by_test false b k = absurd (omega (arith, leb-false (0 + x) w b, h zero x refl))

-- how many words objects of these sizes have
abbrev total : List ℕ → ℕ
total ns = sum_by (λ n. n) ns

total_more : (n k : ℕ) (ns : List ℕ) → total (take (suc k) (n ∷ ns)) ≡ n + total (take k ns)
total_more n k ns = sum_by-cons (λ (m : ℕ). m) n (take k ns)

-- where sizes that follow end within a target, they all lie in it
all_here : (w t o : ℕ) (ns : List ℕ) (k : ℕ) (q : ℕ × ℕ) → slice_get (places_from w t o ns) k ≡ Some q
    → o + total (take (suc k) ns) ≤ w → q.0 ≡ t
all_here w t o [] k q at few = absurd (cc)
all_here w t o (n ∷ ns) k q at few = by_test (nat_le (o + n) w) refl k at few (all_here w t (o + n) ns)
  where
    by_test : (b : Bool) → nat_le (o + n) w ≡ b → (k : ℕ)
        → slice_get (cond b ((t, o) ∷ places_from w t (o + n) ns) ((t + 1, 0) ∷ places_from w (t + 1) n ns)) k ≡ Some q
        → o + total (take (suc k) (n ∷ ns)) ≤ w
        → ((k : ℕ) (q : ℕ × ℕ) → slice_get (places_from w t (o + n) ns) k ≡ Some q
        → o + n + total (take (suc k) ns) ≤ w → q.0 ≡ t)
        → q.0 ≡ t
    by_test true b zero at few rest = ap (λ (p : ℕ × ℕ). p.0) (sym (same_Some _ _ at))
    by_test true b (suc k) at few rest = rest k q at (omega (arith, few, total_more n (suc k) ns))
    by_test false b k at few rest = absurd (omega (arith, few, total_more n k ns, leb-false (o + n) w b))

-- where sizes come to no more words than a target has, they lie in the target where the last one ended, or the next one
near_from : (w t o : ℕ) (ns : List ℕ) (k : ℕ) (q : ℕ × ℕ) → slice_get (places_from w t o ns) k ≡ Some q
    → total (take (suc k) ns) ≤ w → (q.0 ≡ t) ⊎ (q.0 ≡ t + 1)
near_from w t o [] k q at few = absurd (cc)
near_from w t o (n ∷ ns) k q at few = by_test (nat_le (o + n) w) k at few (near_from w t (o + n) ns)
  where
    by_test : (b : Bool) (k : ℕ)
        → slice_get (cond b ((t, o) ∷ places_from w t (o + n) ns) ((t + 1, 0) ∷ places_from w (t + 1) n ns)) k ≡ Some q
        → total (take (suc k) (n ∷ ns)) ≤ w
        → ((k : ℕ) (q : ℕ × ℕ) → slice_get (places_from w t (o + n) ns) k ≡ Some q → total (take (suc k) ns) ≤ w
        → (q.0 ≡ t) ⊎ (q.0 ≡ t + 1))
        → (q.0 ≡ t) ⊎ (q.0 ≡ t + 1)
    by_test true zero at few rest = inl (ap (λ (r : ℕ × ℕ). r.0) (same_Some _ _ (sym at)))
    by_test true (suc k) at few rest = rest k q at (omega (arith, few, total_more n (suc k) ns))
    by_test false zero at few rest = inr (ap (λ (r : ℕ × ℕ). r.0) (same_Some _ _ (sym at)))
    by_test false (suc k) at few rest =
        inr (all_here w (t + 1) n ns k q at (omega (arith, few, total_more n (suc k) ns)))

-- so they lie in that of the first of them, or the next one
near_first : (w t o : ℕ) (ns : List ℕ) (k : ℕ) (p q : ℕ × ℕ) → slice_get (places_from w t o ns) zero ≡ Some p
    → slice_get (places_from w t o ns) k ≡ Some q → total (take (suc k) ns) ≤ w → (q.0 ≡ p.0) ⊎ (q.0 ≡ p.0 + 1)
near_first w t o [] k p q first at few = absurd (cc)
near_first w t o (n ∷ ns) k p q first at few = by_test (nat_le (o + n) w) k first at few
  where
    by_test : (b : Bool) (k : ℕ)
        → slice_get (cond b ((t, o) ∷ places_from w t (o + n) ns) ((t + 1, 0) ∷ places_from w (t + 1) n ns)) zero
        ≡ Some p
        → slice_get (cond b ((t, o) ∷ places_from w t (o + n) ns) ((t + 1, 0) ∷ places_from w (t + 1) n ns)) k ≡ Some q
        → total (take (suc k) (n ∷ ns)) ≤ w → (q.0 ≡ p.0) ⊎ (q.0 ≡ p.0 + 1)
    by_test b zero first at few = inl (ap (λ (r : ℕ × ℕ). r.0) (same_Some _ _ (sym at ∙ first)))
    by_test true (suc k) first at few =
        let here : t ≡ p.0 = ap (λ (r : ℕ × ℕ). r.0) (same_Some _ _ first) in
        elim (near_from w t (o + n) ns k q at (omega (arith, few, total_more n (suc k) ns))) [
          | inl e ↦ inl (e ∙ here)
          | inr e ↦ inr (omega (arith, e, here))
        ]
    by_test false (suc k) first at few =
        let here : t + 1 ≡ p.0 = ap (λ (r : ℕ × ℕ). r.0) (same_Some _ _ first) in
        inl (all_here w (t + 1) n ns k q at (omega (arith, few, total_more n (suc k) ns)) ∙ here)

-- the same of objects from a number on
pub near_places : (w t o : ℕ) (ns : List ℕ) (i k j : ℕ) (p q : ℕ × ℕ) → j ≡ i + k
    → slice_get (places_from w t o ns) i ≡ Some p → slice_get (places_from w t o ns) j ≡ Some q
    → total (take (suc k) (drop i ns)) ≤ w → (q.0 ≡ p.0) ⊎ (q.0 ≡ p.0 + 1)
near_places w t o ns zero k j p q sum first at few =
    let here : j ≡ k = omega (arith, sum) in
    near_first w t o ns k p q first (subst (λ m. slice_get (places_from w t o ns) m ≡ Some q) here at) few
near_places w t o [] (suc i) k j p q sum first at few = absurd (cc)
near_places w t o (n ∷ ns) (suc i) k zero p q sum first at few = absurd (omega (arith, sum))
near_places w t o (n ∷ ns) (suc i) k (suc j) p q sum first at few =
    by_test (nat_le (o + n) w) first at (near_places w t (o + n) ns i k j p q (omega (arith, sum)))
    (near_places w (t + 1) n ns i k j p q (omega (arith, sum)))
  where
    by_test : (b : Bool)
        → slice_get (cond b ((t, o) ∷ places_from w t (o + n) ns) ((t + 1, 0) ∷ places_from w (t + 1) n ns)) (suc i)
        ≡ Some p
        → slice_get (cond b ((t, o) ∷ places_from w t (o + n) ns) ((t + 1, 0) ∷ places_from w (t + 1) n ns)) (suc j)
        ≡ Some q
        → (slice_get (places_from w t (o + n) ns) i ≡ Some p → slice_get (places_from w t (o + n) ns) j ≡ Some q
        → total (take (suc k) (drop i ns)) ≤ w → (q.0 ≡ p.0) ⊎ (q.0 ≡ p.0 + 1))
        → (slice_get (places_from w (t + 1) n ns) i ≡ Some p → slice_get (places_from w (t + 1) n ns) j ≡ Some q
        → total (take (suc k) (drop i ns)) ≤ w → (q.0 ≡ p.0) ⊎ (q.0 ≡ p.0 + 1))
        → (q.0 ≡ p.0) ⊎ (q.0 ≡ p.0 + 1)
    by_test true first at here next = here first at few
    by_test false first at here next = next first at few

ends_before : (n : ℕ) (p q : ℕ × ℕ) → IsBefore n p q → EndsBefore n p q
ends_before n p q k = elim k.order [ inl l ↦ inr l | inr e ↦ inl e ]

plus_one : (k : ℕ) → k + 1 ≡ suc k
plus_one k = omega arith

are_planned : (w : ℕ) (ns : List ℕ) → Each ns (λ n. n ≤ w) → ArePlanned w ns (places_from w 0 0 ns)
are_planned w ns h = record {
  many = places_length w 0 0 ns;
  first = λ n p k. first_at_head w ns n p h k.0 k.1;
  next = λ i m n p q k l. (let one : i + 1 ≡ suc i = omega arith in
      next_follows w 0 0 ns i m n p q k.0 k.1 (subst (λ j. slice_get ns j ≡ Some n) one l.0)
      (subst (λ j. slice_get (places_from w 0 0 ns) j ≡ Some q) one l.1));
  inside = λ i n p k. (places_behind w 0 0 ns h i n p k.0 k.1).fits;
  counted = λ i n p k. places_counted w 0 0 ns i p k.1;
  apart = λ i j m n p q l k z. ends_before m p q (places_apart w 0 0 ns h i j m n p q l k.0 k.1 z.0 z.1);
  near = λ i k m n p q first at few. near_places w 0 0 ns i k (i + k) p q refl first.1 at.1
      (subst (λ c. total (take c (drop i ns)) ≤ w) (plus_one k) few);
}

-- these places are planned
pub planned_so : (w : ℕ) (ns : List ℕ) (ps : List (ℕ × ℕ)) → ps ≡ places_from w 0 0 ns
    → Each ns (λ n. n ≤ w) → ArePlanned w ns ps
planned_so w ns ps is h = subst (ArePlanned w ns) (sym is) (are_planned w ns h)
