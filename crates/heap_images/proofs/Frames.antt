-- The frames of a heap's image: each has one owner, or is free once.
use Rattle.std.proofs.Common.{◌≡◌, ◌||◌, inl, inr, ◌≤◌, ℕ, ◌+◌, true, ltb, List, length}
use Rattle.std.proofs.Common.{Option, Some, None, is_some, refl, sym, ap, ◌∙◌, subst, arith}
use Rattle.std.specs.List.{slice_get, range_with_len}
use Rattle.std.specs.Option.{option_map}
use Rattle.std.proofs.lemmas.Option.{none-some, same_Some, slice_get_within, slice_get_past}
use Rattle.std.proofs.lemmas.Bool.{cases_lt, eq-eqb, eqb-true, lt-ltb, le-ltb, false≢true, false_from_ne_true}
use Rattle.model.specs.declared.records.Page.{Page}
use Rattle.model.specs.Configs.{is_page_size}
use Rattle.model.specs.Stores.{StoreState, page_at as store_page, frame_in, state_at, state_in, has_memory}
use Rattle.model.specs.Owning.{Each, IsStore, owned_size}
use Rattle.model.specs.Holding.{IsHeap}
use Rattle.model.specs.States.{HeapState}
use Rattle.model.proofs.Lists.{get_within}
use Rattle.model.proofs.Memory.{page_record}
use Rattle.refinement.proofs.Granted.{page_here}
use Rattle.verify.specs.Images.{PageData}
use Rattle.verify.specs.Soundness.{is_filled, is_frame, is_sized, has_words, owners_in, times_in, as_number}
use Rattle.verify.specs.Soundness.{may_be_free, HasItsFrame, HasFrames}
use Rattle.verify.specs.Pictures.{image_of, page_data, pages_of, is_free, free_of}
use Rattle.heap_images.proofs.Lists.{numbered, mapped_first, count_none, count_one}
use Rattle.heap_images.proofs.Lists.{filtered_passes, once_filtered, never_filtered}

-- free frames

-- a frame is in the list of free ones once if it has no owner, else not
free_times : (s : StoreState) (f : ℕ) → times_in (free_of s) f ≡ as_number (is_free (slice_get s.owners f))
free_times s f = elim (cases_lt f (length s.owners)) [
  | inl l ↦ once_filtered (λ f. is_free (slice_get s.owners f)) f 0 (length s.owners) (omega arith) (omega arith)
  | inr l ↦
      never_filtered (λ f. is_free (slice_get s.owners f)) f 0 (length s.owners) (inr (omega arith))
      ∙ ap (λ o. as_number (is_free o)) (sym (slice_get_past s.owners f l))
]

-- a free frame has no owner
no_owner : (o : Option (Option ℕ)) → is_free o ≡ true → o ≡ Some None
no_owner None e = absurd (false≢true e)
no_owner (Some None) e = refl
no_owner (Some (Some n)) e = absurd (false≢true e)

-- pages

-- a page's frame, if it is frame f
frame_is : (f : ℕ) (o : Option ℕ) → is_frame f o ≡ true → o ≡ Some f
frame_is f None h = absurd (false≢true h)
frame_is f (Some g) h = ap Some (eqb-true g f h)

module _ (h : HeapState) (s : IsStore h.store) (d : IsHeap h) where
  -- a page of the image is that of a record
  from_record : (j : ℕ) (y : PageData) → slice_get (pages_of h) j ≡ Some y
      → (p : Page) × (slice_get h.store.pages j ≡ Some p) × (page_data h (j + 1) ≡ y)
  from_record j y e =
      mapped_first (λ p. page_data h (j + 1)) (slice_get h.store.pages j) y
      (sym (numbered (page_data h) h.store.pages 1 j (j + 1) (omega arith)) ∙ e)

  -- a page of the image that has a frame is the frame's owner
  owner_of : (f j : ℕ) (y : PageData) → slice_get (pages_of h) j ≡ Some y → is_frame f y.frame ≡ true
      → slice_get h.store.owners f ≡ Some (Some (j + 1))
  owner_of f j y e t =
      let (p, at, same) = from_record j y e in
      let framed : frame_in (store_page h.store (j + 1)) ≡ Some f =
      ap (λ (z : PageData). z.frame) same ∙ frame_is f y.frame t in
      let (i, q, number, there, frame) = page_record h.store (j + 1) f framed in
      s.owning.owned i f q there frame ∙ ap (λ n. Some (Some n)) (sym number)

  -- a frame that no page owns has no page in the image
  owned_never : (f : ℕ) → ((n : ℕ) → slice_get h.store.owners f ≡ Some (Some n) → ⊥) → owners_in (pages_of h) f ≡ 0
  owned_never f none =
      count_none (λ p. is_frame f p.frame) (pages_of h)
      (λ j y e. false_from_ne_true _ (λ t. none (j + 1) (owner_of f j y e t)))

  -- a frame that a page owns has that page alone
  owned_once : (f n : ℕ) → slice_get h.store.owners f ≡ Some (Some n) → owners_in (pages_of h) f ≡ 1
  owned_once f n e =
      let (i, p, number, at, framed) = s.owning.owner f n e in
      let there : slice_get (pages_of h) i ≡ Some (page_data h (i + 1)) =
      numbered (page_data h) h.store.pages 1 i (i + 1) (omega arith) ∙ ap (option_map (λ p. page_data h (i + 1))) at in
      let here : is_frame f (page_data h (i + 1)).frame ≡ true =
      ap (is_frame f) (ap frame_in (page_here h.store i p at) ∙ framed) ∙ eq-eqb f f refl in
      count_one (λ p. is_frame f p.frame) (pages_of h) i (page_data h (i + 1)) there here
      (λ j y g t. let same = same_Some n (j + 1) (same_Some _ _ (sym e ∙ owner_of f j y g t)) in omega arith)

  -- a frame that has an owner or is free exists
  within : (f : ℕ) (o : Option ℕ) → slice_get h.store.owners f ≡ Some o → ltb f (length h.store.frames) ≡ true
  within f o e =
      let l = slice_get_within h.store.owners f o e in
      lt-ltb f (length h.store.frames) (omega (arith, s.sized.owners))

  -- how often a frame is used, by its owner
  used_once : (f : ℕ) (o : Option (Option ℕ)) → slice_get h.store.owners f ≡ o
      → owners_in (pages_of h) f + as_number (is_free o) ≡ as_number (ltb f (length h.store.frames))
  used_once f None e =
      let past : length h.store.frames ≤ f = elim (cases_lt f (length h.store.owners)) [
        | inl l ↦ let x = get_within h.store.owners f l in absurd (none-some x.0 (sym e ∙ x.1))
        | inr m ↦ omega (arith, s.sized.owners)
      ] in
      ap (λ n. n + 0) (owned_never f (λ n g. none-some (Some n) (sym e ∙ g)))
      ∙ ap as_number (sym (le-ltb f (length h.store.frames) past))
  used_once f (Some None) e =
      ap (λ n. n + 1) (owned_never f (λ n g. none-some n (same_Some None (Some n) (sym e ∙ g))))
      ∙ ap as_number (sym (within f None e))
  used_once f (Some (Some n)) e = ap (λ n. n + 0) (owned_once f n e) ∙ ap as_number (sym (within f (Some n) e))

  -- a page of the image has a frame exactly if its state requires one
  framed_by_state : Each (pages_of h) HasItsFrame
  unfolding state_at
  framed_by_state j y e =
      let (p, at, same) = from_record j y e in
      subst HasItsFrame same
      (subst (λ (o : Option Page). is_some (frame_in o) ≡ has_memory (state_in o)) (sym (page_here h.store j p at))
      (s.pages j p at).memory)

  -- a frame has the words of a page if it has an owner, else none
  sized_frame : (f : ℕ) (o : Option ℕ) → slice_get h.store.owners f ≡ Some o
      → has_words h.store.frames (owned_size h.store.words o) f ≡ true
  sized_frame f o e = by_frame (slice_get h.store.frames f) refl
    where
      by_frame : (q : Option (List ℕ)) → slice_get h.store.frames f ≡ q
          → is_sized (owned_size h.store.words o) q ≡ true
      by_frame None z = refl
      by_frame (Some ws) z = eq-eqb (length ws) (owned_size h.store.words o) (s.sized.frames f o ws e z)

  filled : Each (pages_of h) (λ p. is_filled h.store.frames h.store.words p.frame ≡ true)
  filled j y e = by_frame y.frame refl
    where
      by_frame : (q : Option ℕ) → y.frame ≡ q → is_filled h.store.frames h.store.words q ≡ true
      by_frame None z = refl
      by_frame (Some f) z = sized_frame f (Some (j + 1)) (owner_of f j y e (ap (is_frame f) z ∙ eq-eqb f f refl))

  free : Each (free_of h.store) (λ f. may_be_free h.store.frames h.store.words f ≡ true)
  free j f e = ap (λ b. b || has_words h.store.frames h.store.words f) (sized_frame f None
      (no_owner (slice_get h.store.owners f)
      (filtered_passes (λ f. is_free (slice_get h.store.owners f)) (range_with_len 0 (length h.store.owners)) j f e)))

  -- the frames of a heap's image are in order
  pub has_frames : HasFrames (image_of h)
  unfolding image_of
  has_frames = record {
    size = ap is_page_size d.sizes.words ∙ d.config.page_size;
    words = filled;
    free = free;
    there = omega (arith, d.sizes.frames);
    states = framed_by_state;
    once = λ f.
        ap (λ n. owners_in (pages_of h) f + n) (free_times h.store f)
        ∙ used_once f (slice_get h.store.owners f) refl
        ∙ ap (λ n. as_number (ltb f n)) d.sizes.frames;
  }
