-- The plan of the live objects of closed pages: each has a place of its own in a target, with space for it.
use Rattle.std.proofs.Common.{◌≡◌, ◌⊎◌, inl, inr, ℕ, zero, suc, ◌+◌, ◌*◌, ◌/◌, ◌%◌, ◌<◌, ◌≤◌, Bool, true, false}
use Rattle.std.proofs.Common.{List, [], ◌∷◌, length, map, get_or, Option, Some, None, refl, sym, ◌∙◌, ap, subst, arith}
use Rattle.std.proofs.Common.{div-add-mod'}
use Rattle.std.specs.List.{slice_get}
use Rattle.std.specs.Option.{option_map}
use Rattle.std.proofs.lemmas.List.{length-map}
use Rattle.std.proofs.lemmas.Nat.{div-mul-add, mod-mul-add}
use Rattle.std.proofs.lemmas.Option.{slice_get-map, slice_get_within, get_or_from_slice_get, same_Some}
use Rattle.model.specs.declared.records.PageState.TheVariants.{Closed}
use Rattle.model.specs.Stores.{state_at, has_memory}
use Rattle.model.specs.Owning.{Each, IsStore}
use Rattle.model.specs.States.{HeapState}
use Rattle.model.specs.Bits.{of_page, bit_at}
use Rattle.model.specs.Plans.{live_offsets, live_on, live_objects, object_words, words_of, plan_of, target_count}
use Rattle.model.specs.Plans.{address_in, moves_of, place_of}
use Rattle.model.proofs.Lists.{get_within}
use Rattle.model.proofs.Memory.{words_sized}
use Rattle.model.proofs.Plans.{IsIn, places_length, places_behind, places_apart, places_counted}
use Rattle.model.proofs.Plans.{in_mapped, mapped_in, at_in, offset_told, objects_in, in_objects, placed}
use Rattle.laws.specs.AddressHeap.{HeapObject}
use Rattle.refinement.specs.Worlds.{object_at}
use Rattle.model.proofs.Tables.{row_short}
use Rattle.refinement.specs.Claims.{IsLaid, Extent, AreApart, object_size, sized_extent}
use Rattle.refinement.proofs.ObjectWords.{read_fits, read_size}
use Rattle.refinement.proofs.Objects.{there}
use Rattle.refinement.proofs.Verdicts.{shape_there}
use Rattle.refinement.proofs.Changes.{list_of, list_read}
use Rattle.refinement.proofs.Opened.{LiesOn, pages_apart}

-- an object that exists has the words of its layout
pub words_are : (h : HeapState) (a : ℕ) (q : HeapObject) → object_at h a ≡ Some q → object_words h a ≡ object_size q
unfolding object_words
words_are h a q e =
    let t = there h a q e in
    ap words_of (shape_there h a q t) ∙ sym (read_size h.config.layouts t.words (a % h.store.words) q t.read)

-- a live object of one of these pages
pub record IsLive (h : HeapState) (pages : List ℕ) (a : ℕ) : Type 0 where
  pub page : IsIn (a / h.store.words) pages
  pub offset : IsIn (a % h.store.words) (live_offsets h (a / h.store.words))
  pub live : bit_at h.live h.store.words a ≡ true
  pub object : HeapObject
  pub here : object_at h a ≡ Some object
  pub fits : a % h.store.words + object_size object ≤ h.store.words

-- a listed offset is one of the page
module _ (h : HeapState) (l : IsLaid h) where
  row_of : (n j : ℕ) → slice_get (of_page h.live n) j ≡ Some true → j < h.store.words
  row_of zero j f = absurd (cc)
  row_of (suc i) j f = by_row (slice_get h.live i) refl
    where
      by_row : (x : Option (List Bool)) → slice_get h.live i ≡ x → j < h.store.words
      by_row None z = absurd (none [] refl (sym (ap (λ r. slice_get r j) (list_read h.live i ∙ ap list_of z)) ∙ f))
        where
          none : (bits : List Bool) → bits ≡ [] → slice_get bits j ≡ Some true → ⊥
          none [] e y = cc
          none (b ∷ bits) e y = cc
      by_row (Some row) z =
          let long : length row ≤ h.store.words = row_short h.store h.live i row l.live z in
          omega (
            arith,
            long,
            slice_get_within row j true
                (sym (ap (λ r. slice_get r j) (list_read h.live i ∙ ap list_of z)) ∙ f),
          )

  pub live_within : (n o : ℕ) → IsIn o (live_offsets h n) → o < h.store.words
  unfolding live_offsets
  live_within n o e = let (j, is, set) = offset_told 0 (of_page h.live n) o e in omega (arith, is, row_of n j set)

module _ (h : HeapState) (s : IsStore h.store) (l : IsLaid h) (pages : List ℕ)
    (closed : (n : ℕ) → IsIn n pages → state_at h.store n ≡ Closed) where
  -- a listed offset on one of the pages
  pub live_at : (n o : ℕ) → IsIn n pages → IsIn o (live_offsets h n) → IsLive h pages (n * h.store.words + o)
  unfolding live_offsets
  live_at n o e k = by_bit n (offset_told 0 (of_page h.live n) o k) e k
    where
      by_bit : (n : ℕ) → (j : ℕ) × (o ≡ 0 + j) × (slice_get (of_page h.live n) j ≡ Some true) → IsIn n pages
          → IsIn o (live_offsets h n) → IsLive h pages (n * h.store.words + o)
      by_bit n (j, is, set) e k =
          let under : o < h.store.words = live_within h l n o k in
          let page : (n * h.store.words + o) / h.store.words ≡ n = div-mul-add n h.store.words o under in
          let offset : (n * h.store.words + o) % h.store.words ≡ o = mod-mul-add n h.store.words o under in
          let bit : get_or (of_page h.live n) o false ≡ true = get_or_from_slice_get (of_page h.live n) o true false
          (ap (slice_get (of_page h.live n)) (omega (arith, is)) ∙ set) in
          let live : bit_at h.live h.store.words (n * h.store.words + o) ≡ true =
          ap (λ m. get_or (of_page h.live m) ((n * h.store.words + o) % h.store.words) false) page
          ∙ ap (λ x. get_or (of_page h.live n) x false) offset ∙ bit in
          let (q, here) = l.live_objects (n * h.store.words + o) live
          (ap (λ m. has_memory (state_at h.store m)) page ∙ ap has_memory (closed n e)) in
          let t = there h (n * h.store.words + o) q here in
          let fits = read_fits h.config.layouts t.words ((n * h.store.words + o) % h.store.words) q t.read in
          record {
            page = subst (λ m. IsIn m pages) (sym page) e;
            offset = subst (λ m. IsIn ((n * h.store.words + o) % h.store.words) (live_offsets h m)) (sym page)
                (subst (λ x. IsIn x (live_offsets h n)) (sym offset) k);
            live = live;
            object = q;
            here = here;
            fits = omega (arith, fits, words_sized h.store ((n * h.store.words + o) / h.store.words) t.words s t.page);
          }

  -- an object of the plan
  pub live_of : (a : ℕ) → IsIn a (live_objects h pages) → IsLive h pages a
  unfolding live_objects
  live_of a e =
      let (n, there, is) = in_objects (live_on h) a pages e in
      let (o, told, at) = mapped_in (λ o. n * h.store.words + o) a (live_offsets h n) is in
      subst (IsLive h pages) at (live_at n o there told)

  -- each live object is in the plan
  pub of_live : (a : ℕ) → IsIn (a / h.store.words) pages → IsIn (a % h.store.words) (live_offsets h (a / h.store.words))
      → IsIn a (live_objects h pages)
  unfolding live_objects
  of_live a e k = objects_in (live_on h) (a / h.store.words) a pages e
      (subst (λ x. IsIn x (live_on h (a / h.store.words))) (div-add-mod' a h.store.words)
      (in_mapped (λ o. a / h.store.words * h.store.words + o) (a % h.store.words)
      (live_offsets h (a / h.store.words)) k))

  abbrev sizes : List ℕ
  sizes = map (object_words h) (live_objects h pages)

  size_at : (i a : ℕ) → slice_get (live_objects h pages) i ≡ Some a → slice_get sizes i ≡ Some (object_words h a)
  size_at i a e =
      slice_get-map (object_words h) (live_objects h pages) i ∙ ap (option_map (object_words h)) e

  all_fit : Each sizes (λ n. n ≤ h.store.words)
  all_fit i n e = by_object (slice_get (live_objects h pages) i) refl
      (sym (slice_get-map (object_words h) (live_objects h pages) i) ∙ e)
    where
      by_object : (o : Option ℕ) → slice_get (live_objects h pages) i ≡ o → option_map (object_words h) o ≡ Some n
          → n ≤ h.store.words
      by_object None f k = absurd (cc)
      by_object (Some a) f k =
          let z = live_of a (at_in a (live_objects h pages) i f) in
          let same : object_words h a ≡ n = same_Some _ _ k in
          omega (arith, z.fits, words_are h a z.object z.here, same)

  module _ (targets : List ℕ) (enough : length targets ≡ target_count (plan_of h pages)) where
    -- the object at an address has the number i in the plan, and its place in this target
    pub record IsPlanned (a to : ℕ) : Type 0 where
      pub index : ℕ
      pub at : slice_get (live_objects h pages) index ≡ Some a
      pub is_live : IsLive h pages a
      pub place : ℕ × ℕ
      pub placed : slice_get (plan_of h pages) index ≡ Some place
      pub target : ℕ
      pub in_target : slice_get targets place.0 ≡ Some target
      pub room : place.1 + object_size is_live.object ≤ h.store.words
      pub is : target * h.store.words + place.1 ≡ to

    pub planned : (a : ℕ) → IsIn a (live_objects h pages) → IsPlanned a (place_of (moves_of h pages targets) a)
    unfolding moves_of plan_of
    planned a e = by_place (placed (live_objects h pages) (map (address_in h.store.words targets) (plan_of h pages)) a
        (length-map (plan_of h pages) (address_in h.store.words targets)
        ∙ places_length h.store.words 0 0 sizes ∙ length-map (live_objects h pages) (object_words h)) e)
      where
        by_plan : (i : ℕ) → slice_get (live_objects h pages) i ≡ Some a → (o : Option (ℕ × ℕ))
            → slice_get (plan_of h pages) i ≡ o
            → option_map (address_in h.store.words targets) o ≡ Some (place_of (moves_of h pages targets) a)
            → IsPlanned a (place_of (moves_of h pages targets) a)
        by_plan i at None f k = absurd (cc)
        by_plan i at (Some p) f k =
            let z = live_of a (at_in a (live_objects h pages) i at) in
            let behind = places_behind h.store.words 0 0 sizes all_fit i (object_words h a) p (size_at i a at) f in
            let low : p.0 < length targets =
            omega (arith, enough, places_counted h.store.words 0 0 sizes i p f) in
            let (t, there) = get_within targets p.0 low in
            let number : get_or targets p.0 0 ≡ t = get_or_from_slice_get targets p.0 t 0 there in
            let is : address_in h.store.words targets p ≡ place_of (moves_of h pages targets) a = same_Some _ _ k in
            record {
              index = i;
              at = at;
              is_live = z;
              place = p;
              placed = f;
              target = t;
              in_target = there;
              room = omega (arith, behind.fits, words_are h a z.object z.here);
              is = ap (λ n. n * h.store.words + p.1) (sym number) ∙ is;
            }

        by_place : (i : ℕ) × (slice_get (live_objects h pages) i ≡ Some a)
            × (slice_get (map (address_in h.store.words targets) (plan_of h pages)) i
            ≡ Some (place_of (moves_of h pages targets) a))
            → IsPlanned a (place_of (moves_of h pages targets) a)
        by_place (i, at, to) = by_plan i at (slice_get (plan_of h pages) i) refl
            (sym (slice_get-map (address_in h.store.words targets) (plan_of h pages) i) ∙ to)

    -- the words of a planned place
    abbrev pub place_extent : (a to : ℕ) → IsPlanned a to → Extent
    place_extent a to x = sized_extent to (object_size x.is_live.object)

    -- they lie in their target
    pub place_lies : (a to : ℕ) (x : IsPlanned a to) → LiesOn h.store.words x.target (place_extent a to x)
    place_lies a to x = record { from = omega (arith, x.is); upto = omega (arith, x.is, x.room) }

    -- those of two objects are apart
    module _ (once : (i j n : ℕ) → slice_get targets i ≡ Some n → slice_get targets j ≡ Some n → i ≡ j) where
      in_order : (a b m n : ℕ) (x : IsPlanned a m) (y : IsPlanned b n) → x.index < y.index
          → AreApart (place_extent a m x) (place_extent b n y)
      unfolding plan_of
      in_order a b m n x y l = by_target (places_apart h.store.words 0 0 sizes all_fit x.index y.index
          (object_words h a) (object_words h b) x.place y.place l (size_at x.index a x.at) x.placed
          (size_at y.index b y.at)
          y.placed).order
        where
          by_target : (x.place.0 < y.place.0) ⊎ ((x.place.0 ≡ y.place.0) × (x.place.1 + object_words h a ≤ y.place.1))
              → AreApart (place_extent a m x) (place_extent b n y)
          by_target (inl z) = pages_apart h.store.words x.target y.target (place_extent a m x) (place_extent b n y)
              (λ e. absurd (less x.place.0 y.place.0 z
              (once x.place.0 y.place.0 x.target x.in_target (y.in_target ∙ ap Some (sym e)))))
              (place_lies a m x) (place_lies b n y)
            where
              less : (i j : ℕ) → i < j → i ≡ j → ⊥
              less i j l e = absurd (omega (arith, l, e))
          by_target (inr (same, z)) =
              let target : x.target ≡ y.target =
              same_Some _ _ (sym x.in_target ∙ ap (slice_get targets) same ∙ y.in_target) in
              let base : x.target * h.store.words ≡ y.target * h.store.words = ap (λ t. t * h.store.words) target in
              inl (omega (arith, z, base, x.is, y.is, words_are h a x.is_live.object x.is_live.here))

      pub planned_apart : (a b m n : ℕ) (x : IsPlanned a m) (y : IsPlanned b n)
          → (a ≡ b) ⊎ AreApart (place_extent a m x) (place_extent b n y)
      planned_apart a b m n x y = by_index (order x.index y.index)
        where
          order : (i j : ℕ) → (i ≡ j) ⊎ (i < j) ⊎ (j < i)
          order i j = grind arith

          by_index : (x.index ≡ y.index) ⊎ (x.index < y.index) ⊎ (y.index < x.index)
              → (a ≡ b) ⊎ AreApart (place_extent a m x) (place_extent b n y)
          by_index (inl e) =
              inl (same_Some _ _ (sym x.at ∙ ap (slice_get (live_objects h pages)) e ∙ y.at))
          by_index (inr (inl l)) = inr (in_order a b m n x y l)
          by_index (inr (inr l)) = inr (elim (in_order b a n m y x l) [ inl z ↦ inr z | inr z ↦ inl z ])
