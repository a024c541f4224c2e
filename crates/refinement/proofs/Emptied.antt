-- Pages become From pages: what of the heap stays, and what each page and each address has then.
--
-- Letters, in addition to those of other files: h is the heap before, g the one with its targets, ts the pages of
-- these, and pages those that are protected.
use Rattle.std.proofs.Common.{◌≡◌, ◌≢◌, ◌⊎◌, inl, inr, ℕ, zero, suc, ◌+◌, ◌-◌, ◌*◌, ◌/◌, ◌%◌, ◌<◌, ◌≤◌, Bool, true}
use Rattle.std.proofs.Common.{false}
use Rattle.std.proofs.Common.{cond, nat_lt, List, [], ◌∷◌, length, map, Option, Some, None, refl, sym, ◌∙◌, ap}
use Rattle.std.proofs.Common.{arith, eq-eqb, ne_eqb, div-add-mod'}
use Rattle.std.specs.List.{slice_get}
use Rattle.std.specs.Option.{option_map}
use Rattle.std.proofs.lemmas.Bool.{cases_eq, ltb-true, ltb-false}
use Rattle.std.proofs.lemmas.Option.{slice_get_within, slice_get_past}
use Rattle.model.specs.declared.records.Forwarding.{Forwarding}
use Rattle.model.specs.declared.records.Page.{Page}
use Rattle.model.specs.declared.records.PageState.TheVariants.{Unused, Closed, From}
use Rattle.model.specs.declared.records.Phase.TheVariants.{Idle}
use Rattle.model.specs.Stores.{StoreState, page_at, state_at, state_in, frame_in, words_at, is_protected}
use Rattle.model.specs.Owning.{IsStore}
use Rattle.model.specs.States.{HeapState}
use Rattle.model.specs.Bits.{of_page, bit_at}
use Rattle.model.specs.Plain.{PlainHeap}
use Rattle.model.specs.Plans.{live_offsets, plan_of, target_count, moves_of, place_of, side_of}
use Rattle.model.specs.Protections.{set_from_of, with_from_pages, with_protected}
use Rattle.model.proofs.Memory.{page_there, words_in}
use Rattle.model.proofs.Plans.{IsIn}
use Rattle.page.proofs.Keeping.{page_at_record, page_at_zero}
use Rattle.laws.specs.AddressHeap.{SideEntry, NoEntry, Planned, Copied}
use Rattle.refinement.specs.Worlds.{world_of, object_at, object_in, entry_at}
use Rattle.refinement.specs.Standing.{Holds}
use Rattle.refinement.proofs.Changes.{list_of, list_read}
use Rattle.refinement.proofs.Targets.{HasTargets}
use Rattle.refinement.proofs.Protecting.{IsOut, ArePages, sides_many, sides_read, pages_read}

-- the entries of a page's live objects

entry_for : (ℕ → ℕ) → ℕ → Forwarding
entry_for f o = record { offset = o; to = f o; copied = false }

-- a listed offset has its entry, and no other has one
entry_told : (f : ℕ → ℕ) (os : List ℕ) (o : ℕ)
    → (IsIn o os × (entry_at (map (entry_for f) os) o ≡ Planned (f o)))
    ⊎ (entry_at (map (entry_for f) os) o ≡ NoEntry)
unfolding entry_for
entry_told f [] o = inr refl
entry_told f (x ∷ os) o = by_first (cases_eq x o) (entry_told f os o)
  where
    entry : Bool → SideEntry
    entry b = cond b (Planned (f x)) (entry_at (map (entry_for f) os) o)

    by_first : (x ≡ o) ⊎ (x ≢ o) → (IsIn o os × (entry_at (map (entry_for f) os) o ≡ Planned (f o)))
        ⊎ (entry_at (map (entry_for f) os) o ≡ NoEntry)
        → (IsIn o (x ∷ os) × (entry_at (map (entry_for f) (x ∷ os)) o ≡ Planned (f o)))
        ⊎ (entry_at (map (entry_for f) (x ∷ os)) o ≡ NoEntry)
    by_first (inl e) rest = inl (inl e, ap entry (eq-eqb x o e) ∙ ap (λ n. Planned (f n)) e)
    by_first (inr d) (inl (there, is)) = inl (inr there, ap entry (ne_eqb x o d) ∙ is)
    by_first (inr d) (inr none) = inr (ap entry (ne_eqb x o d) ∙ none)

entry_of_told : (f : ℕ → ℕ) (os : List ℕ) (o : ℕ) → IsIn o os → entry_at (map (entry_for f) os) o ≡ Planned (f o)
unfolding entry_for
entry_of_told f [] o e = absurd e
entry_of_told f (x ∷ os) o e = by_first (cases_eq x o) e (entry_of_told f os o)
  where
    entry : Bool → SideEntry
    entry b = cond b (Planned (f x)) (entry_at (map (entry_for f) os) o)

    by_first : (x ≡ o) ⊎ (x ≢ o) → (x ≡ o) ⊎ IsIn o os
        → (IsIn o os → entry_at (map (entry_for f) os) o ≡ Planned (f o))
        → entry_at (map (entry_for f) (x ∷ os)) o ≡ Planned (f o)
    by_first (inl e) k rest = ap entry (eq-eqb x o e) ∙ ap (λ n. Planned (f n)) e
    by_first (inr d) (inl e) rest = absurd (d e)
    by_first (inr d) (inr there) rest = ap entry (ne_eqb x o d) ∙ rest there

-- what holds before pages are protected: no page is, and these are closed
pub record MayEmpty (h g : HeapState) (p p0 : PlainHeap) (ts pages : List ℕ) : Type 0 where
  pub store : IsStore h.store
  pub before : Holds h p p0
  pub targets : HasTargets h g ts
  pub holds : Holds g p p0
  pub idle : h.phase ≡ Idle
  pub closed : (n : ℕ) → IsIn n pages → state_at h.store n ≡ Closed
  pub enough : length ts ≡ target_count (plan_of h pages)

-- the record of a From page, and the one before it
pub record IsEmptied (g after : HeapState) (n : ℕ) : Type 0 where
  pub page : Page
  pub was : page_at g.store n ≡ Some page
  pub closed : page.state ≡ Closed
  pub now : page_at after.store n ≡ Some (set_from_of page)

module _ (h g : HeapState) (p p0 : PlainHeap) (ts pages : List ℕ) (m : MayEmpty h g p p0 ts pages) where
  abbrev moves : List (ℕ × ℕ)
  moves = moves_of h pages ts

  abbrev after : HeapState
  after = with_protected h g pages moves

  pub idle : g.phase ≡ Idle
  idle = m.targets.phase ∙ m.idle

  state_zero : state_at h.store 0 ≡ Unused
  unfolding state_at
  state_zero = ap state_in (page_at_zero h.store 0 refl)

  pub positive : ArePages pages
  positive zero e = absurd (no (sym state_zero ∙ m.closed zero e))
    where
      no : Unused ≡ Closed → ⊥
      no z = cc
  positive (suc n) e = omega arith

  -- a page that is protected was closed, also in the heap with its targets
  closed_now : (n : ℕ) → IsIn n pages → state_at g.store n ≡ Closed
  closed_now n e = elim (m.targets.old n) [
    | inl is ↦ absurd (no (sym (m.targets.new n is).0 ∙ m.closed n e))
    | inr same ↦ same ∙ m.closed n e
  ]
    where
      no : Unused ≡ Closed → ⊥
      no z = cc

  record_there : (n : ℕ) → IsIn n pages → (q : Page) × (page_at g.store n ≡ Some q) × (q.state ≡ Closed)
  unfolding state_at
  record_there n e = by_page (page_at g.store n) refl
    where
      no : Unused ≡ Closed → ⊥
      no z = cc

      by_page : (o : Option Page) → page_at g.store n ≡ o
          → (q : Page) × (page_at g.store n ≡ Some q) × (q.state ≡ Closed)
      by_page None f = absurd (no (sym (ap state_in f) ∙ closed_now n e))
      by_page (Some q) f = (q, f, sym (ap state_in f) ∙ closed_now n e)

  -- each page is From, or as it was
  pub page_after : (n : ℕ) → (IsIn n pages × IsEmptied g after n)
      ⊎ (IsOut n pages × (page_at after.store n ≡ page_at g.store n))
  unfolding with_protected
  page_after zero = inr (
    (λ k e z. absurd (omega (arith, z, positive k e))),
    page_at_zero after.store zero refl ∙ sym (page_at_zero g.store zero refl),
  )
  page_after (suc i) = elim (pages_read pages g.store.pages i positive) [
    | inl (there, is) ↦ inl (there, emptied there is (record_there (suc i) there))
    | inr (out, same) ↦ inr (out, at after.store ∙ same ∙ sym (at g.store))
  ]
    where
      at : (s : StoreState) → page_at s (suc i) ≡ slice_get s.pages i
      at s = page_at_record s (suc i) (λ e. absurd (omega (arith, e))) ∙ ap (slice_get s.pages) (omega arith)

      emptied : IsIn (suc i) pages
          → slice_get (with_from_pages pages g.store.pages) i ≡ option_map set_from_of (slice_get g.store.pages i)
          → (q : Page) × (page_at g.store (suc i) ≡ Some q) × (q.state ≡ Closed) → IsEmptied g after (suc i)
      emptied there is (q, was, closed) = record {
        page = q;
        was = was;
        closed = closed;
        now = at after.store ∙ is ∙ ap (option_map set_from_of) (sym (at g.store) ∙ was);
      }

  -- properties that don't depend on the state of a page stay
  pub page_keeps : {B : Type 0} (P : Option Page → B)
      → ((q : Page) → q.state ≡ Closed → P (Some (set_from_of q)) ≡ P (Some q))
      → (n : ℕ) → P (page_at after.store n) ≡ P (page_at g.store n)
  page_keeps P same n = elim (page_after n) [
    | inl (there, e) ↦ ap P e.now ∙ same e.page e.closed ∙ ap P (sym e.was)
    | inr (out, e) ↦ ap P e
  ]

  pub state_emptied : (n : ℕ) → IsIn n pages → state_at after.store n ≡ From
  unfolding state_at
  state_emptied n there = elim (page_after n) [
    | inl (is, e) ↦ ap state_in e.now
    | inr (out, e) ↦ absurd (out n there refl)
  ]

  pub state_stays : (n : ℕ) → IsOut n pages → state_at after.store n ≡ state_at g.store n
  unfolding state_at
  state_stays n out = elim (page_after n) [
    | inl (is, e) ↦ absurd (out n is refl)
    | inr (also, e) ↦ ap state_in e
  ]

  words_after : (n : ℕ) → words_at after.store n ≡ words_at g.store n
  unfolding words_at with_protected
  words_after = page_keeps (λ o. words_in g.store.frames (frame_in o)) (λ q e. refl)

  -- the objects stay
  pub objects_after : (a : ℕ) → object_at after a ≡ object_at g a
  unfolding with_protected
  objects_after a = ap (λ o. object_in g.config.layouts (bit_at g.starts g.store.words a) o (a % g.store.words))
      (words_after (a / g.store.words))

  -- no address had an entry
  pub no_entry : (a : ℕ) → (world_of g).side_entry a ≡ NoEntry
  no_entry a = by_entry ((world_of g).side_entry a) refl
    where
      unprotected : is_protected ((world_of g).page_state a) ≡ false
      unprotected = m.holds.invariant.phases.idle a idle

      no : true ≡ false → ⊥
      no z = cc

      by_entry : (e : SideEntry) → (world_of g).side_entry a ≡ e → e ≡ NoEntry
      by_entry NoEntry f = refl
      by_entry (Planned n) f =
          absurd (no (sym (ap is_protected (m.holds.invariant.objects.planned_from a n f)) ∙ unprotected))
      by_entry (Copied n) f = absurd (no (sym (m.holds.invariant.objects.copied_from a n f) ∙ unprotected))

  side_within : (i : ℕ) → IsIn (suc i) pages → i < length g.sides
  side_within i e =
      let (q, at, closed) = record_there (suc i) e in
      let (one, there) = page_there g.store (suc i) q at in
      let low = slice_get_within g.store.pages (suc i - 1) q there in
      omega (arith, low, m.holds.laid.sides.pages)

  -- a protected page has the forwarding table of its live objects
  pub side_after : (n : ℕ) → IsIn n pages → of_page after.sides n ≡ side_of h moves n
  unfolding with_protected
  side_after zero e = absurd (omega (arith, positive zero e))
  side_after (suc i) e = elim (sides_read h moves pages g.sides i positive (side_within i e)) [
    | inl (there, is) ↦ is
    | inr (out, same) ↦ absurd (out (suc i) e refl)
  ]

  -- the others have theirs
  pub side_stays : (n : ℕ) → IsOut n pages → of_page after.sides n ≡ of_page g.sides n
  unfolding with_protected
  side_stays zero out = refl
  side_stays (suc i) out = by_size (nat_lt i (length g.sides)) refl
    where
      past : (xs : List (List Forwarding)) → length xs ≤ i → of_page xs (suc i) ≡ []
      past xs l = list_read xs i ∙ ap list_of (slice_get_past xs i l)

      by_size : (b : Bool) → nat_lt i (length g.sides) ≡ b → of_page after.sides (suc i) ≡ of_page g.sides (suc i)
      by_size true e = elim (sides_read h moves pages g.sides i positive (ltb-true i (length g.sides) e)) [
        | inl (there, is) ↦ absurd (out (suc i) there refl)
        | inr (also, same) ↦ same
      ]
      by_size false e =
          let few : length g.sides ≤ i = ltb-false i (length g.sides) e in
          past after.sides (omega (arith, few, sides_many h moves pages g.sides)) ∙ sym (past g.sides few)

  -- a live object on a protected page has its planned place, and no other address has an entry
  pub record GoesTo (a : ℕ) : Type 0 where
    pub page : IsIn (a / h.store.words) pages
    pub offset : IsIn (a % h.store.words) (live_offsets h (a / h.store.words))
    pub is : (world_of after).side_entry a ≡ Planned (place_of moves a)

  place : (a : ℕ) → ℕ → ℕ
  place a o = place_of moves (a / h.store.words * h.store.words + o)

  side_is : (a : ℕ) → IsIn (a / h.store.words) pages
      → (world_of after).side_entry a
      ≡ entry_at (map (entry_for (place a)) (live_offsets h (a / h.store.words))) (a % h.store.words)
  unfolding side_of entry_for place with_protected
  side_is a e = ap (λ w. entry_at (of_page after.sides (a / w)) (a % w)) m.targets.words
      ∙ ap (λ fs. entry_at fs (a % h.store.words)) (side_after (a / h.store.words) e)

  same_place : (a : ℕ) → place a (a % h.store.words) ≡ place_of moves a
  unfolding place
  same_place a = ap (place_of moves) (div-add-mod' a h.store.words)

  pub goes_to : (a : ℕ) → IsIn (a / h.store.words) pages → IsIn (a % h.store.words) (live_offsets h (a / h.store.words))
      → GoesTo a
  goes_to a page offset = record {
    page = page;
    offset = offset;
    is = side_is a page ∙ entry_of_told (place a) (live_offsets h (a / h.store.words)) (a % h.store.words) offset
        ∙ ap (λ n. Planned n) (same_place a);
  }

  pub in_or_out : (n : ℕ) → IsIn n pages ⊎ IsOut n pages
  in_or_out n = elim (page_after n) [ inl (there, e) ↦ inl there | inr (out, e) ↦ inr out ]

  pub entry_after : (a : ℕ) → GoesTo a ⊎ ((world_of after).side_entry a ≡ NoEntry)
  unfolding with_protected
  entry_after a = elim (in_or_out (a / h.store.words)) [
    | inl page ↦ elim (entry_told (place a) (live_offsets h (a / h.store.words)) (a % h.store.words)) [
      | inl (offset, is) ↦ inl (goes_to a page offset)
      | inr none ↦ inr (side_is a page ∙ none)
    ]
    | inr out ↦ inr (ap (λ w. entry_at (of_page after.sides (a / w)) (a % w)) m.targets.words
        ∙ ap (λ fs. entry_at fs (a % h.store.words)) (side_stays (a / h.store.words) out)
        ∙ ap (λ w. entry_at (of_page g.sides (a / w)) (a % w)) (sym m.targets.words) ∙ no_entry a)
  ]
