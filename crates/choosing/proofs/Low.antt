-- Next fit of a page's objects ends within the words that an object and a target may have.
use Rattle.std.proofs.Common.{◌≡◌, ℕ, zero, suc, ◌+◌, ◌*◌, ◌<◌, ◌≤◌, ◌^◌, Bool, true, false, cond, nat_le, List, []}
use Rattle.std.proofs.Common.{◌∷◌, map}
use Rattle.std.proofs.Common.{Option, Some, None, refl, subst, ap, arith}
use Rattle.std.specs.Prelude.{◌&&◌}
use Rattle.std.specs.List.{list_all, slice_get}
use Rattle.std.proofs.lemmas.Bool.{and_parts, leb-true}
use Rattle.std.proofs.lemmas.Option.{same_Some}
use Rattle.layout.specs.declared.shape.Layout.{Layout}
use Rattle.layout.specs.Objects.{size_of}
use Rattle.model.specs.Configs.{IsRanged, fits_page}
use Rattle.model.specs.Data.{layout_at, layout_in, header_layout}
use Rattle.model.specs.Holding.{IsHeap}
use Rattle.model.specs.Plans.{live_offsets, object_words, words_of}
use Rattle.model.specs.States.{HeapState}
use Rattle.model.specs.Stores.{word_at}
use Rattle.choosing.specs.declared.packing.Packing.{Packing}
use Rattle.choosing.specs.Choices.{size_on, sizes_on}
use Rattle.choosing.specs.Packings.{pack, pack_one}

fits_each : (w : ℕ) (ls : List Layout) (i : ℕ) (l : Layout) → list_all (fits_page w) ls ≡ true → slice_get ls i ≡ Some l
    → size_of l ≤ w
fits_each w [] i l all at = absurd (cc)
fits_each w (x ∷ xs) zero l all at =
    let first = (and_parts (fits_page w x) (list_all (fits_page w) xs) all).0 in
    let fits = (and_parts (nat_le x.refs 1023 && nat_le x.nums 1023) (nat_le (size_of x) w) first).1 in
    subst (λ (y : Layout). size_of y ≤ w) (same_Some _ _ at) (leb-true (size_of x) w fits)
fits_each w (x ∷ xs) (suc i) l all at =
    fits_each w xs i l (and_parts (fits_page w x) (list_all (fits_page w) xs) all).1 at

pub object_low : (h : HeapState) (a : ℕ) → IsRanged h.config → object_words h a < 2 ^ 17
unfolding object_words layout_at
object_low h a r = by_header (header_layout (word_at h.store a))
  where
    by_layout : (i : ℕ) (o : Option Layout) → slice_get h.config.layouts i ≡ o → words_of o < 2 ^ 17
    by_layout i None e = omega arith
    by_layout i (Some l) e =
        let fits : size_of l ≤ h.config.words = fits_each h.config.words h.config.layouts i l r.fitting e in
        let high = r.words_high in
        omega (arith, fits, high)

    by_header : (o : Option ℕ) → words_of (layout_in h.config.layouts o) < 2 ^ 17
    by_header None = omega arith
    by_header (Some i) = by_layout i (slice_get h.config.layouts i) refl

pub packed_low : (w : ℕ) (f : ℕ → ℕ) → ((x : ℕ) → f x < 2 ^ 17) → w < 2 ^ 17 → (xs : List ℕ) (s : Packing)
    → s.offset < 2 ^ 17 → (pack w s (map f xs)).offset < 2 ^ 17
unfolding pack_one
packed_low w f low few [] s k = k
packed_low w f low few (x ∷ xs) s k =
    by_test (λ z l. packed_low w f low few xs z l) (nat_le (s.offset + f x) w) refl
  where
    by_test : ((z : Packing) → z.offset < 2 ^ 17 → (pack w z (map f xs)).offset < 2 ^ 17) → (b : Bool)
        → nat_le (s.offset + f x) w ≡ b
        → (pack w (cond b (record { target = s.target; offset = s.offset + f x; count = s.target + 1 })
        (record { target = s.target + 1; offset = f x; count = s.target + 2 })) (map f xs)).offset < 2 ^ 17
    by_test rest true e =
        let fits = leb-true (s.offset + f x) w e in
        rest (record { target = s.target; offset = s.offset + f x; count = s.target + 1 }) (omega (arith, fits, few))
    by_test rest false e =
        rest (record { target = s.target + 1; offset = f x; count = s.target + 2 }) (low x)

pub page_low : (h : HeapState) (n : ℕ) (s t : Packing) → IsHeap h → s.offset < 2 ^ 17
    → t ≡ pack h.store.words s (sizes_on h n) → t.offset < 2 ^ 17
page_low h n s t is low e =
    let high = is.config.words_high in
    let few : h.store.words < 2 ^ 17 = omega (arith, is.sizes.words, high) in
    let there = packed_low h.store.words (size_on h n) (λ o. object_low h (n * h.store.words + o) is.config) few
    (live_offsets h n) s low in
    omega (arith, there, ap (λ (p : Packing). p.offset) e)
