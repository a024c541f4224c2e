-- A page whose objects are all copied is released: its objects are removed, and nothing else changes.
use Rattle.std.proofs.Common.{◌≡◌, ◌≢◌, inl, inr, ℕ, ◌+◌, ◌-◌, ◌/◌, ◌%◌, Bool, true, false}
use Rattle.std.proofs.Common.{cond, not, nat_eq, List, [], length, Option, Some, None, refl, sym, ◌∙◌, ap}
use Rattle.std.proofs.Common.{subst, arith, eq-eqb, ne_eqb}
use mathlib.Core.Path.{fun_ext}
use Rattle.std.specs.List.{slice_get, list_any}
use Rattle.std.specs.Option.{option_map}
use Rattle.std.proofs.lemmas.Bool.{cases_eq, eqb-true, false≢true, true≢false}
use Rattle.std.proofs.lemmas.Option.{none-some}
use Rattle.model.specs.declared.records.Page.{Page}
use Rattle.model.specs.declared.records.PageState.{PageState}
use Rattle.model.specs.declared.records.PageState.TheVariants.{Unused, Open, Closed, From, Gone}
use Rattle.model.specs.declared.records.Phase.{Phase}
use Rattle.model.specs.declared.records.Phase.TheVariants.{Idle, ProtectCrossing}
use Rattle.model.specs.declared.steps.Actor.TheVariants.{Worker}
use Rattle.model.specs.declared.steps.Step.TheVariants as steps
use Rattle.model.specs.Phases.{is_idle}
use Rattle.model.specs.Stores.{StoreState, page_at, state_at, state_in, frame_in, words_at, has_memory, is_from}
use Rattle.model.specs.Stores.{with_empty}
use Rattle.model.specs.Owning.{Each, IsStore}
use Rattle.model.specs.States.{HeapState, change_found}
use Rattle.model.specs.Registers.{register_of}
use Rattle.model.specs.Bits.{of_page, bit_at}
use Rattle.model.specs.Cycles.{is_uncopied}
use Rattle.model.specs.Plain.{PlainHeap, plain_step, plain_answer}
use Rattle.model.specs.Moves.{set_gone_of, with_released}
use Rattle.model.specs.Emptying.{crossed_if_protecting, release_outcome}
use Rattle.model.proofs.Memory.{page_there, words_in, own_frame}
use Rattle.model.proofs.Lists.{each_set, get_set_other}
use Rattle.page.proofs.Protecting.{released_sized}
use Rattle.page.proofs.RowSizes.{released_rows}
use Rattle.model.proofs.Tables.{length_changed}
use Rattle.laws.specs.AddressHeap.{HeapObject, SideEntry, NoEntry, Planned, Copied, put}
use Rattle.laws.specs.Edits.{release_page}
use Rattle.laws.specs.Transitions.{MayRelease, Release}
use Rattle.laws.proofs.Basics.{put_same, put_other}
use Rattle.refinement.specs.Worlds.{world_of, object_at, object_in}
use Rattle.refinement.specs.Worlds as worlds
use Rattle.model.specs.Holding.{AreRowsOf}
use Rattle.refinement.specs.Claims.{IsLaid, Claim, OfObject, OfBuffer, OfPlan, OfEnd, Extent, extent}
use Rattle.refinement.specs.Claims.{object_size, sized_extent, planned_extent, end_extent, HasGiven}
use Rattle.refinement.specs.Standing.{Holds}
use Rattle.refinement.proofs.Accepted.{on_has, on_unless}
use Rattle.refinement.proofs.Carrying.{Carries, RowHolds, alike, row_by, stays}
use Rattle.refinement.proofs.Claims.{shrunk_apart}
use Rattle.refinement.proofs.Granted.{page_set}
use Rattle.refinement.proofs.StartMarks.{planned_uncopied}
use Rattle.refinement.proofs.Moving.{all_where_protecting}

is_from_is : (f : PageState) → not (is_from f) ≡ false → f ≡ From
is_from_is From e = refl
is_from_is Unused e = absurd (cc)
is_from_is Open e = absurd (cc)
is_from_is Closed e = absurd (cc)
is_from_is Gone e = absurd (cc)

not_idle : (f : Phase) → is_idle f ≡ false → f ≢ Idle
not_idle f e k = true≢false (sym (ap is_idle k) ∙ e)

-- the record of a From page
pub record IsEmptying (s : StoreState) (n : ℕ) : Type 0 where
  pub page : Page
  pub was : page_at s n ≡ Some page
  pub from : page.state ≡ From
  pub number : n - 1 + 1 ≡ n
  pub at : slice_get s.pages (n - 1) ≡ Some page

emptying : (s : StoreState) (n : ℕ) → state_at s n ≡ From → IsEmptying s n
unfolding state_at
emptying s n e = by_page (page_at s n) refl e
  where
    by_page : (o : Option Page) → page_at s n ≡ o → state_in o ≡ From → IsEmptying s n
    by_page None f k = absurd (cc)
    by_page (Some q) f k =
        let (one, at) = page_there s n q f in record { page = q; was = f; from = k; number = sym one; at = at }

-- if the frame of a page loses its words, other pages keep theirs
others_words : (s : StoreState) (n m : ℕ) → IsStore s → m ≢ n
    → words_in (with_empty s.frames (frame_in (page_at s n))) (frame_in (page_at s m))
    ≡ words_in s.frames (frame_in (page_at s m))
others_words s n m h d = by_frame (frame_in (page_at s n)) refl (frame_in (page_at s m)) refl
  where
    by_frame : (x : Option ℕ) → frame_in (page_at s n) ≡ x → (y : Option ℕ) → frame_in (page_at s m) ≡ y
        → words_in (with_empty s.frames x) y ≡ words_in s.frames y
    by_frame None a y b = refl
    by_frame (Some f) a None b = refl
    by_frame (Some f) a (Some g) b =
        get_set_other s.frames f g [] (λ z. d (own_frame s m n f h (b ∙ ap Some z) a))

module _ {h : HeapState} {p p0 : PlainHeap} (s : IsStore h.store) (k : Holds h p p0) (n : ℕ)
    (e : IsEmptying h.store n) where
  pages : (m : ℕ) → page_at (with_released h.store n) m ≡ put (page_at h.store) n (Some (set_gone_of e.page)) m
  unfolding with_released
  pages m = page_set h.store (with_released h.store n) (n - 1) e.page (set_gone_of e.page) e.at
      (ap (λ o. change_found h.store.pages (n - 1) o set_gone_of) e.at) m
      ∙ ap (λ j. put (page_at h.store) j (Some (set_gone_of e.page)) m) e.number

  from_there : state_at h.store n ≡ From
  unfolding state_at
  from_there = ap state_in e.was ∙ e.from

  state_here : state_at (with_released h.store n) n ≡ Gone
  unfolding state_at
  state_here = ap state_in (pages n ∙ put_same (page_at h.store) n (Some (set_gone_of e.page)))

  state_other : (m : ℕ) → m ≢ n → state_at (with_released h.store n) m ≡ state_at h.store m
  unfolding state_at
  state_other m d = ap state_in (pages m ∙ put_other (page_at h.store) n (Some (set_gone_of e.page)) m d)

  words_here : words_at (with_released h.store n) n ≡ None
  unfolding words_at with_released
  words_here = ap (λ o. words_in (with_empty h.store.frames (frame_in (page_at h.store n))) (frame_in o))
      (pages n ∙ put_same (page_at h.store) n (Some (set_gone_of e.page)))

  words_other : (m : ℕ) → m ≢ n → words_at (with_released h.store n) m ≡ words_at h.store m
  unfolding words_at with_released
  words_other m d = ap (λ o. words_in (with_empty h.store.frames (frame_in (page_at h.store n))) (frame_in o))
      (pages m ∙ put_other (page_at h.store) n (Some (set_gone_of e.page)) m d)
      ∙ others_words h.store n m s d

  inside : ℕ → Bool
  inside a = nat_eq (a / h.store.words) n

  no_words : (b : Bool) (o : ℕ) → object_in h.config.layouts b None o ≡ None
  no_words true o = refl
  no_words false o = refl

  object_here : (a : ℕ) → a / h.store.words ≡ n → object_at (record h { store = with_released h.store n }) a ≡ None
  unfolding with_released
  object_here a f =
      ap (λ y. object_in h.config.layouts (bit_at h.starts h.store.words a) y (a % h.store.words))
      (ap (words_at (with_released h.store n)) f ∙ words_here)
      ∙ no_words (bit_at h.starts h.store.words a) (a % h.store.words)

  object_other : (a : ℕ) → a / h.store.words ≢ n
      → object_at (record h { store = with_released h.store n }) a ≡ object_at h a
  unfolding with_released
  object_other a d =
      ap (λ y. object_in h.config.layouts (bit_at h.starts h.store.words a) y (a % h.store.words))
      (words_other (a / h.store.words) d)

  -- an object that is left was there, on another page
  object_was : (a : ℕ) (q : HeapObject) → object_at (record h { store = with_released h.store n }) a ≡ Some q
      → object_at h a ≡ Some q
  object_was a q f = elim (cases_eq (a / h.store.words) n) [
    | inl g ↦ absurd (none-some q (sym (object_here a g) ∙ f))
    | inr d ↦ sym (object_other a d) ∙ f
  ]

  released_world : world_of (record h { store = with_released h.store n }) ≡ release_page inside (world_of h)
  unfolding with_released register_of inside
  released_world = λ z. record (world_of h) {
    page_state = fun_ext states z;
    object_at = fun_ext objects z;
  }
    where
      states : (a : ℕ) → state_at (with_released h.store n) (a / h.store.words)
          ≡ cond (nat_eq (a / h.store.words) n) Gone (state_at h.store (a / h.store.words))
      states a = elim (cases_eq (a / h.store.words) n) [
        | inl f ↦ ap (state_at (with_released h.store n)) f ∙ state_here
            ∙ sym (ap (λ b. cond b Gone (state_at h.store (a / h.store.words))) (eq-eqb (a / h.store.words) n f))
        | inr d ↦ state_other (a / h.store.words) d
            ∙ sym (ap (λ b. cond b Gone (state_at h.store (a / h.store.words))) (ne_eqb (a / h.store.words) n d))
      ]

      objects : (a : ℕ) → object_at (record h { store = with_released h.store n }) a
          ≡ cond (nat_eq (a / h.store.words) n) None (object_at h a)
      objects a = elim (cases_eq (a / h.store.words) n) [
        | inl f ↦ object_here a f
            ∙ sym (ap (λ b. cond b None (object_at h a)) (eq-eqb (a / h.store.words) n f))
        | inr d ↦ object_other a d
            ∙ sym (ap (λ b. cond b None (object_at h a)) (ne_eqb (a / h.store.words) n d))
      ]

  -- a claim's extent was its extent before
  had : (c : Claim) (y : Extent) → extent (record h { store = with_released h.store n }) c ≡ Some y
      → extent h c ≡ Some y
  unfolding with_released
  had (OfObject a) y f = by_object (object_at (record h { store = with_released h.store n }) a) refl f
    where
      by_object : (o : Option HeapObject) → object_at (record h { store = with_released h.store n }) a ≡ o
          → option_map (sized_extent a) (option_map object_size o) ≡ Some y
          → option_map (sized_extent a) (option_map object_size (object_at h a)) ≡ Some y
      by_object None g z = absurd (cc)
      by_object (Some q) g z = ap (λ o. option_map (sized_extent a) (option_map object_size o)) (object_was a q g) ∙ z
  had (OfBuffer u) y f = f
  had (OfPlan a) y f =
      by_entry ((world_of h).side_entry a) (object_at (record h { store = with_released h.store n }) a) refl f
    where
      by_entry : (x : SideEntry) (o : Option HeapObject)
          → object_at (record h { store = with_released h.store n }) a ≡ o
          → planned_extent x (option_map object_size o) ≡ Some y
          → planned_extent x (option_map object_size (object_at h a)) ≡ Some y
      by_entry NoEntry o g z = absurd (cc)
      by_entry (Copied m) o g z = absurd (cc)
      by_entry (Planned m) None g z = absurd (cc)
      by_entry (Planned m) (Some q) g z =
          ap (λ o. planned_extent (Planned m) (option_map object_size o)) (object_was a q g) ∙ z
  had (OfEnd m) y f = elim (cases_eq m n) [
    | inl g ↦ absurd (none-some y (sym (ap (end_extent h.store.words m) (ap (page_at (with_released h.store n)) g
        ∙ pages n ∙ put_same (page_at h.store) n (Some (set_gone_of e.page)))) ∙ f))
    | inr d ↦ ap (end_extent h.store.words m)
        (sym (pages m ∙ put_other (page_at h.store) n (Some (set_gone_of e.page)) m d)) ∙ f
  ]

  many : length (with_released h.store n).pages ≡ length h.store.pages
  unfolding with_released
  many = length_changed h.store.pages (n - 1) set_gone_of

  -- a page with memory is another one
  another : (m : ℕ) → has_memory (state_at (with_released h.store n) m) ≡ true → m ≢ n
  another m f g = false≢true (sym (ap (λ j. has_memory (state_at (with_released h.store n) j)) g
      ∙ ap has_memory state_here) ∙ f)

  released_laid : IsLaid (record h { store = with_released h.store n })
  unfolding with_released
  released_laid = record {
    starts = rows h.starts l.starts;
    live = rows h.live l.live;
    mark = rows h.mark l.mark;
    todo = rows h.todo l.todo;
    sides = record { pages = l.sides.pages ∙ sym many; rising = l.sides.rising };
    registers = l.registers;
    objects = λ a b f. (let d = another (a / h.store.words) f in let (q, is) = l.objects a b (memory a d f) in
        (q, object_other a d ∙ is));
    apart = shrunk_apart (extent h) (extent (record h { store = with_released h.store n })) l.apart
        (λ c y f. (y, had c y f, record { from = omega arith; upto = omega arith }));
    planned = λ a m q f g. l.planned a m q f (object_was a q g);
    live_objects = λ a b f. (let d = another (a / h.store.words) f in
        let (q, is) = l.live_objects a b (memory a d f) in (q, object_other a d ∙ is));
    unused = λ a f. l.unused a (elim (cases_eq (a / h.store.words) n) [
      | inl g ↦ absurd (no (sym (ap (state_at (with_released h.store n)) g ∙ state_here) ∙ f))
      | inr d ↦ sym (state_other (a / h.store.words) d) ∙ f
    ]);
  }
    where
      l : IsLaid h
      l = k.laid

      no : Gone ≡ Unused → ⊥
      no z = cc

      rows : (xs : List (List Bool)) → AreRowsOf h.store xs → AreRowsOf (with_released h.store n) xs
      rows xs r = r ∙ sym (released_rows h.store n from_there)

      memory : (a : ℕ) → a / h.store.words ≢ n
          → has_memory (state_at (with_released h.store n) (a / h.store.words)) ≡ true
          → has_memory (state_at h.store (a / h.store.words)) ≡ true
      memory a d f = ap has_memory (sym (state_other (a / h.store.words) d)) ∙ f

  released_carries : Carries h (record h { store = with_released h.store n }) (release_page inside)
  unfolding with_released
  released_carries = record {
    size = alike h (record h { store = with_released h.store n }) refl refl (released_sized h.store n).frames refl
        refl refl refl;
    laid = λ z. released_laid;
    given = λ z. subst (λ ps. Each ps HasGiven)
        (sym (ap (λ o. change_found h.store.pages (n - 1) o set_gone_of) e.at))
        (each_set HasGiven h.store.pages (n - 1) (set_gone_of e.page) z (λ f. absurd (cc)));
    words = λ z. record { threads = z.threads; globals = z.globals };
    world = released_world;
  }

  state_was : state_at h.store n ≡ From
  unfolding state_at
  state_was = ap state_in e.was ∙ e.from

  may_release : h.phase ≢ Idle → (h.phase ≡ ProtectCrossing → (t : ℕ) → (world_of h).crossed t ≡ true)
      → list_any is_uncopied (of_page h.sides n) ≡ false → MayRelease (world_of h) inside
  unfolding inside
  may_release busy all copied = record {
    from = λ a f. ap (state_at h.store) (eqb-true (a / h.store.words) n f) ∙ state_was;
    copied = λ a m f g. true≢false (sym (planned_uncopied (of_page h.sides n) (a % h.store.words) m
        (sym (ap (λ j. worlds.entry_at (of_page h.sides j) (a % h.store.words))
        (eqb-true (a / h.store.words) n f)) ∙ g))
        ∙ copied);
    crossed = all;
    busy = busy;
  }

module _ {h : HeapState} {p p0 : PlainHeap} (s : IsStore h.store) (k : Holds h p p0) where
  -- a page is released
  pub release_holds : (w n : ℕ) → RowHolds h p p0 (Worker w) (steps.Release n) (release_outcome h n)
  unfolding release_outcome plain_step plain_answer
  release_holds w n = on_unless (is_idle h.phase) _ _ _ (λ busy.
      on_has (crossed_if_protecting h) _ _ _ (all_where_protecting s k) (λ u all.
      on_unless (not (is_from (state_at h.store n))) _ _ _ (λ from.
      on_unless (list_any is_uncopied (of_page h.sides n)) _ _ _ (λ copied.
      let e = emptying h.store n (is_from_is (state_at h.store n) from) in
      row_by k (released_carries s k n e) (stays h p)
      (Release (inside s k n e) (may_release s k n e (not_idle h.phase busy) all copied)) tt))))
