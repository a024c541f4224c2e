-- Consequences of claims that don't overlap, and a claim that is split.
use Rattle.std.proofs.Common.{◌≡◌, ◌≢◌, ◌⊎◌, inl, inr, ℕ, ◌+◌, ◌*◌, ◌/◌, ◌%◌, ◌<◌, ◌≤◌}
use Rattle.std.proofs.Common.{Option, Some, None, sym, ◌∙◌, ap, arith, div-add-mod'}
use Rattle.std.specs.Option.{option_map}
use Rattle.std.proofs.lemmas.Nat.{div-mul-add, mod-mul-add}
use Rattle.model.specs.States.{HeapState}
use Rattle.laws.specs.AddressHeap.{HeapObject}
use Rattle.refinement.specs.Worlds.{object_at}
use Rattle.refinement.specs.Claims.{Claim, OfObject, Extent, AreApart, Apart, extent, object_size, sized_extent}

-- an address within the page of another
pub within_page : (w a k : ℕ) → a % w + k < w → ((a + k) / w ≡ a / w) × ((a + k) % w ≡ a % w + k)
within_page w a k h =
    let whole : a / w * w + (a % w + k) ≡ a + k = omega (arith, div-add-mod' a w) in (
      ap (λ n. n / w) (sym whole) ∙ div-mul-add (a / w) w (a % w + k) h,
      ap (λ n. n % w) (sym whole) ∙ mod-mul-add (a / w) w (a % w + k) h,
    )

pub object_extent : (h : HeapState) (a : ℕ) (q : HeapObject) → object_at h a ≡ Some q
    → extent h (OfObject a) ≡ Some (record { from = a; upto = a + object_size q })
object_extent h a q e = ap (λ o. option_map (sized_extent a) (option_map object_size o)) e

same_object : (a c : ℕ) → OfObject a ≡ OfObject c → a ≡ c
same_object a c e = cc

-- two objects of one page don't overlap
pub objects_apart : (h : HeapState) (x a : ℕ) (o q : HeapObject) → Apart (extent h) → object_at h x ≡ Some o
    → object_at h a ≡ Some q → x ≢ a → x / h.store.words ≡ a / h.store.words
    → (x % h.store.words + object_size o ≤ a % h.store.words) ⊎ (a % h.store.words + object_size q ≤ x % h.store.words)
objects_apart h x a o q apart e f d page =
    go (apart (OfObject x) (OfObject a) _ _ (object_extent h x o e) (object_extent h a q f))
  where
    base : x / h.store.words * h.store.words ≡ a / h.store.words * h.store.words
    base = ap (λ n. n * h.store.words) page

    go : (OfObject x ≡ OfObject a) ⊎ AreApart (record { from = x; upto = x + object_size o })
        (record { from = a; upto = a + object_size q }) → (x % h.store.words + object_size o ≤ a % h.store.words)
        ⊎ (a % h.store.words + object_size q ≤ x % h.store.words)
    go (inl s) = absurd (d (same_object x a s))
    go (inr (inl l)) = inl (omega (arith, l, base, div-add-mod' x h.store.words, div-add-mod' a h.store.words))
    go (inr (inr l)) = inr (omega (arith, l, base, div-add-mod' x h.store.words, div-add-mod' a h.store.words))

-- if all extents stay, no two overlap
pub extents_same : (e f : Claim → Option Extent) → Apart e → ((c : Claim) → f c ≡ e c) → Apart f
extents_same e f a same c d x y k l = a c d x y (sym (same c) ∙ k) (sym (same d) ∙ l)

-- x lies within y
pub record Within (x y : Extent) : Type 0 where
  pub from : y.from ≤ x.from
  pub upto : x.upto ≤ y.upto

-- if each claim has a part of what it had, no two overlap
pub shrunk_apart : (e f : Claim → Option Extent) → Apart e
    → ((c : Claim) (y : Extent) → f c ≡ Some y → (x : Extent) × (e c ≡ Some x) × Within y x) → Apart f
shrunk_apart e f a shrinks c d x y h k =
    let (v, had, in_c) = shrinks c x h in
    let (u, has, in_d) = shrinks d y k in
    elim (a c d v u had has) [
      | inl q ↦ inl q
      | inr z ↦ inr (elim z [
        | inl l ↦ inl (omega (arith, l, in_c.upto, in_d.from))
        | inr l ↦ inr (omega (arith, l, in_c.from, in_d.upto))
      ])
    ]

-- claim c had a full extent, of which it and d now have parts, and no other claim changes
pub record Splits (e f : Claim → Option Extent) (c d : Claim) : Type 0 where
  pub whole : Extent
  pub had : e c ≡ Some whole
  pub new : e d ≡ None
  pub rest : (x : Extent) → f c ≡ Some x → Within x whole
  pub part : (y : Extent) → f d ≡ Some y → Within y whole
  pub apart : (x y : Extent) → f c ≡ Some x → f d ≡ Some y → AreApart x y
  pub others : (u : Claim) → (u ≡ c) ⊎ (u ≡ d) ⊎ (f u ≡ e u)

module _ (e f : Claim → Option Extent) (a : Apart e) (c d : Claim) (s : Splits e f c d) where
  -- a part of c's old extent is apart from another's
  far : (x y : Extent) (u : Claim) → Within x s.whole → e u ≡ Some y → (c ≡ u) ⊎ AreApart x y
  far x y u h k = go (a c u s.whole y s.had k)
    where
      go : (c ≡ u) ⊎ AreApart s.whole y → (c ≡ u) ⊎ AreApart x y
      go (inl q) = inl q
      go (inr (inl q)) = inr (inl (let z = h.upto in omega arith))
      go (inr (inr q)) = inr (inr (let z = h.from in omega arith))

  swap : (x y : Extent) → AreApart x y → AreApart y x
  swap x y (inl h) = inr h
  swap x y (inr h) = inl h

  -- the new extent of c or d, and that of another
  one : (u v : Claim) (x y : Extent) → f u ≡ Some x → f v ≡ Some y → (u ≡ c) ⊎ (u ≡ d) → f v ≡ e v
      → (u ≡ v) ⊎ AreApart x y
  one u v x y h k (inl p) q =
      elim (far x y v (s.rest x (ap f (sym p) ∙ h)) (sym q ∙ k)) [ inl r ↦ inl (p ∙ r) | inr r ↦ inr r ]
  one u v x y h k (inr p) q = inr (elim (far x y v (s.part x (ap f (sym p) ∙ h)) (sym q ∙ k)) [
    | inl r ↦ swap y x (s.apart y x (ap f r ∙ k) (ap f (sym p) ∙ h))
    | inr r ↦ r
  ])

  -- after a claim is split, no two overlap
  pub split_apart : Apart f
  split_apart u v x y h k = go (s.others u) (s.others v)
    where
      back : (v ≡ u) ⊎ AreApart y x → (u ≡ v) ⊎ AreApart x y
      back (inl r) = inl (sym r)
      back (inr r) = inr (swap y x r)

      go : (u ≡ c) ⊎ (u ≡ d) ⊎ (f u ≡ e u) → (v ≡ c) ⊎ (v ≡ d) ⊎ (f v ≡ e v) → (u ≡ v) ⊎ AreApart x y
      go (inl p) (inl q) = inl (p ∙ sym q)
      go (inl p) (inr (inl q)) = inr (s.apart x y (ap f (sym p) ∙ h) (ap f (sym q) ∙ k))
      go (inr (inl p)) (inl q) = inr (swap y x (s.apart y x (ap f (sym q) ∙ k) (ap f (sym p) ∙ h)))
      go (inr (inl p)) (inr (inl q)) = inl (p ∙ sym q)
      go (inr (inr p)) (inr (inr q)) = a u v x y (sym p ∙ h) (sym q ∙ k)
      go (inl p) (inr (inr q)) = one u v x y h k (inl p) q
      go (inr (inl p)) (inr (inr q)) = one u v x y h k (inr p) q
      go (inr (inr p)) (inl q) = back (one v u y x k h (inl q) p)
      go (inr (inr p)) (inr (inl q)) = back (one v u y x k h (inr q) p)
