-- The forwarding tables that drafts become: entries rise by offset and go to pages.
use Rattle.std.proofs.Common.{◌≡◌, ℕ, zero, suc, ◌+◌, ◌*◌, ◌<◌, ◌≤◌, false, List, [], ◌∷◌, length, map, drop, Some}
use Rattle.std.proofs.Common.{refl, sym, ◌∙◌, ap, subst, arith}
use Rattle.std.specs.Prelude.{get_or}
use Rattle.std.proofs.Math.Nat.{mul_comm}
use Rattle.std.proofs.lemmas.Nat.{mul-add-lt}
use Rattle.std.specs.List.{slice_get}
use Rattle.std.proofs.lemmas.Option.{same_Some, get_or_from_slice_get}
use Rattle.model.specs.declared.records.Forwarding.{Forwarding}
use Rattle.model.specs.Holding.{AreRising, GoesToPage, IsHeap}
use Rattle.model.specs.Owning.{Each}
use Rattle.model.specs.Plans.{address_in, offsets_from}
use Rattle.model.specs.States.{HeapState}
use Rattle.model.proofs.Lists.{get_within}
use Rattle.model.proofs.Plans.{side_rises}
use Rattle.forward.specs.Drafts.{DraftState, settled}
use Rattle.relocate.specs.Drafts.{IsReadyFor}
use Rattle.relocate.proofs.Settled.{placed_entries, settled_placed}

-- an element after others that are dropped
get_dropped : {X : Type 0} (xs : List X) (a i j : ℕ) → j ≡ a + i → slice_get (drop a xs) i ≡ slice_get xs j
get_dropped [] zero i j e = refl
get_dropped [] (suc a) i j e = refl
get_dropped (x ∷ xs) zero i j e = let same : i ≡ j = omega (arith, e) in ap (slice_get (x ∷ xs)) same
get_dropped (x ∷ xs) (suc a) i zero e = absurd (omega (arith, e))
get_dropped (x ∷ xs) (suc a) i (suc j) e = get_dropped xs a i j (omega (arith, e))

-- lists that are equal from an index on are equal at it
pub same_there : {X : Type 0} (xs ys : List X) (i : ℕ) (x : X) → drop i xs ≡ drop i ys → slice_get xs i ≡ Some x
    → slice_get ys i ≡ Some x
same_there xs ys i x e at = sym (get_dropped ys i 0 i (omega arith)) ∙ sym (ap (λ zs. slice_get zs 0) e)
    ∙ get_dropped xs i 0 i (omega arith) ∙ at

-- entries rise as the offsets do
placed_rises : (v low w : ℕ) (ts : List ℕ) (ps : List (ℕ × ℕ)) (os : List ℕ)
    → AreRising v low (map (λ o. record { offset = o; to = 0; copied = false }) os)
    → AreRising v low (placed_entries w ts ps os)
placed_rises v low w ts ps [] r = tt
placed_rises v low w ts [] (o ∷ os) r = tt
placed_rises v low w ts (p ∷ ps) (o ∷ os) (a, b, r) = (a, b, placed_rises v (o + 1) w ts ps os r)

-- a place in a target is on a page that has a number
place_goes : (w count : ℕ) (ts : List ℕ) (p : ℕ × ℕ) → p.0 < length ts → Each ts (λ n. n ≤ count) → p.1 < w
    → address_in w ts p < (count + 1) * w
place_goes w count ts p there few low =
    let (n, e) = get_within ts p.0 there in
    let is : get_or ts p.0 0 ≡ n = get_or_from_slice_get ts p.0 n 0 e in
    subst (λ m. address_in w ts p < m) (mul_comm w (count + 1))
    (mul-add-lt (get_or ts p.0 0) w p.1 (count + 1) (omega (arith, is, few p.0 n e)) low)

-- the places of entries are on pages that have numbers
all_go : (w count : ℕ) (ts : List ℕ) (ps : List (ℕ × ℕ)) (os : List ℕ) → Each ts (λ n. n ≤ count)
    → Each ps (λ p. p.0 < length ts) → Each ps (λ p. p.1 < w)
    → Each (placed_entries w ts ps os) (λ f. f.to < (count + 1) * w)
all_go w count ts ps [] few counted within i f e = absurd (cc)
all_go w count ts [] (o ∷ os) few counted within i f e = absurd (cc)
all_go w count ts (p ∷ ps) (o ∷ os) few counted within zero f e =
    subst (λ (y : Forwarding). y.to < (count + 1) * w)
    (same_Some (record { offset = o; to = address_in w ts p; copied = false }) f e)
    (place_goes w count ts p (counted 0 p refl) few (within 0 p refl))
all_go w count ts (p ∷ ps) (o ∷ os) few counted within (suc i) f e =
    all_go w count ts ps os few (λ j. counted (suc j)) (λ j. within (suc j)) i f e

module _ (h : HeapState) (ts : List ℕ) (d : DraftState) (k : IsHeap h) (is : IsReadyFor h.store.words (length ts) d) where
  pub settled_rises : AreRising h.config.words 0 (settled h.store.words ts d)
  settled_rises = subst (AreRising h.config.words 0) (sym (settled_placed h.store.words ts d is.many))
      (placed_rises h.config.words 0 h.store.words ts d.places (offsets_from 0 d.live)
      (side_rises h.config.words 0 d.live (λ o. 0) (omega (arith, is.short, k.sizes.words))))

  pub settled_go : Each ts (λ n. n ≤ h.store.count) → Each (settled h.store.words ts d) (GoesToPage h.config)
  settled_go few i f e =
      subst (λ n. f.to < (n + 1) * h.config.words) k.sizes.pages
      (subst (λ w. f.to < (h.store.count + 1) * w) k.sizes.words
      (all_go h.store.words h.store.count ts d.places (offsets_from 0 d.live) few is.counted is.within i f
      (ap (λ fs. slice_get fs i) (sym (settled_placed h.store.words ts d is.many)) ∙ e)))
