-- A mark ends: memory stays in order, and the step is the laws' transition.
use Rattle.std.proofs.Common.{◌≡◌, ℕ, ◌+◌, ◌/◌, ◌%◌, ◌*◌, ◌||◌}
use Rattle.std.proofs.Common.{Bool, true, false, not, cond, List, [], length, map}
use Rattle.std.proofs.Common.{Option, Some, None, is_some, refl, sym, ◌∙◌, ap, subst, arith}
use mathlib.Core.Path.{fun_ext}
use Rattle.std.specs.List.{slice_get, list_any}
use Rattle.std.specs.Prelude.{◌==◌}
use Rattle.std.specs.Option.{option_map}
use Rattle.std.proofs.lemmas.Bool.{or_parts, eqb-true, not-false, false≢true}
use Rattle.std.proofs.lemmas.List.{length-replicate}
use Rattle.std.proofs.lemmas.Option.{none-some, same_Some}
use Rattle.model.specs.declared.steps.Actor.TheVariants.{Worker}
use Rattle.model.specs.declared.steps.Step.TheVariants as steps
use Rattle.model.specs.declared.steps.Answer.{Answer}
use Rattle.model.specs.declared.steps.Refusal.TheVariants as refusals
use Rattle.model.specs.declared.records.Page.{Page}
use Rattle.model.specs.declared.records.PageState.TheVariants.{Unused}
use Rattle.model.specs.declared.records.Global.{Global}
use Rattle.model.specs.declared.records.Phase.TheVariants.{Idle}
use Rattle.model.specs.Stores.{words_at, page_at, frame_in, state_at, state_in, is_open, is_protected}
use Rattle.model.specs.Stores.{has_memory, page_after_mark, pages_after_mark, store_after_mark}
use Rattle.model.specs.Stores.{owner_after_mark, frames_owned}
use Rattle.model.specs.Owning.{Each, IsStore}
use Rattle.model.specs.Holding.{AreRising, AreRowsOf}
use Rattle.model.specs.States.{HeapState, ThreadState}
use Rattle.model.specs.Registers.{register_of}
use Rattle.model.specs.Bits.{bit_at, bit_count}
use Rattle.model.specs.Scans.{may_scan}
use Rattle.model.specs.Cycles.{has_todo, first_pending, none_pending, is_lent, end_mark, end_mark_outcome}
use Rattle.model.specs.Cycles.{rows_after_mark}
use Rattle.model.proofs.Tables.{lengths_blank}
use Rattle.page.proofs.RowSizes.{ended_rows}
use Rattle.model.specs.Refusing.{refuse_if}
use Rattle.model.specs.Plain.{PlainHeap, plain_step, plain_answer}
use Rattle.model.proofs.Lists.{none_passes, position_none, each_replicate, no_some}
use Rattle.model.proofs.Memory.{words_in}
use Rattle.page.proofs.Ended.{ended_sized}
use Rattle.laws.specs.Edits.{state_after_mark}
use Rattle.laws.specs.Edits as edits
use Rattle.laws.specs.AddressHeap.{HeapObject, NoEntry, Planned}
use Rattle.laws.specs.Promises.{ReachableIsLive, LiveWasReachable, PlannedIsUnreachable}
use Rattle.laws.proofs.Promises.{reachable_is_live, live_was_reachable, planned_unreachable}
use Rattle.laws.specs.Transitions.{MayEndMark, EndMark}
use Rattle.refinement.specs.Worlds.{world_of, object_at, object_in, entry_at, as_barrier, barrier_in, todo_in}
use Rattle.refinement.specs.PlainHeaps.{births_of}
use Rattle.refinement.specs.Claims.{IsLaid, HasGiven, Claim, OfObject, OfBuffer, OfPlan, OfEnd, Extent}
use Rattle.refinement.specs.Claims.{extent}
use Rattle.refinement.specs.Claims.{sized_extent, planned_extent, end_extent, object_size, size_at}
use Rattle.refinement.specs.Standing.{Holds, StepHolds, FindsLive}
use Rattle.refinement.proofs.Accepted.{OnAccepted, on_has, on_accepted}
use Rattle.refinement.proofs.Carrying.{Carries, RowHolds, alike, row_by, stays}
use Rattle.refinement.proofs.Scans.{is_scanning}
use Rattle.refinement.proofs.EndedPages.{get_after, length_after, page_after, state_of, frame_of, open_of}
use Rattle.refinement.proofs.EndedPages.{memory_is, memory_kept, no_side, blank_everywhere, none_set, bit_ended}
use Rattle.refinement.proofs.EndedPages.{bit_was, kept_words}

module _ {h : HeapState} {p p0 : PlainHeap} (s : IsStore h.store) (k : Holds h p p0)
    (may : MayEndMark (world_of h)) where
  l : IsLaid h
  l = k.laid

  abbrev lent : ℕ → Bool
  lent = is_lent h.threads

  -- the states of pages after a mark

  states : (n : ℕ) → state_at (store_after_mark lent h.store) n ≡ state_after_mark (lent n) (state_at h.store n)
  unfolding state_at
  states n = ap state_in (page_after lent h.store n) ∙ state_of (lent n) (page_at h.store n)

  words : (n : ℕ) → words_at (store_after_mark lent h.store) n
      ≡ cond (is_protected (state_at h.store n)) None (words_at h.store n)
  unfolding words_at state_at store_after_mark
  words n = ap (words_in after) (ap frame_in (page_after lent h.store n)
      ∙ frame_of (lent n) (page_at h.store n)) ∙ by_bit (is_protected (state_in (page_at h.store n))) refl
    where
      after : List (List ℕ)
      after = frames_owned (map (owner_after_mark h.store) h.store.owners) h.store.frames

      by_frame : (o : Option ℕ) → frame_in (page_at h.store n) ≡ o → is_protected (state_in (page_at h.store n)) ≡ false
          → words_in after o ≡ words_in h.store.frames o
      by_frame None a f = refl
      by_frame (Some g) a f = kept_words h.store n g s f a

      by_bit : (b : Bool) → is_protected (state_in (page_at h.store n)) ≡ b
          → words_in after (cond b None (frame_in (page_at h.store n)))
          ≡ cond b None (words_in h.store.frames (frame_in (page_at h.store n)))
      by_bit true f = refl
      by_bit false f = by_frame (frame_in (page_at h.store n)) refl f

  -- the objects after a mark
  objects : (a : ℕ) → object_at (end_mark h) a
      ≡ cond (is_protected (state_at h.store (a / h.store.words))) None (object_at h a)
  unfolding end_mark store_after_mark
  objects a = ap (λ o. object_in h.config.layouts (bit_at (rows_after_mark h.store.pages h.starts) h.store.words a) o
      (a % h.store.words)) (words (a / h.store.words)) ∙ by_state (is_protected (state_at h.store (a / h.store.words)))
      refl
    where
      nothing : (b : Bool) → object_in h.config.layouts b None (a % h.store.words) ≡ None
      nothing true = refl
      nothing false = refl

      by_state : (c : Bool) → is_protected (state_at h.store (a / h.store.words)) ≡ c
          → object_in h.config.layouts (bit_at (rows_after_mark h.store.pages h.starts) h.store.words a)
          (cond c None (words_at h.store (a / h.store.words))) (a % h.store.words)
          ≡ cond c None (object_in h.config.layouts (bit_at h.starts h.store.words a)
          (words_at h.store (a / h.store.words)) (a % h.store.words))
      by_state true e = nothing (bit_at (rows_after_mark h.store.pages h.starts) h.store.words a)
      by_state false e =
          ap (λ b. object_in h.config.layouts b (words_at h.store (a / h.store.words)) (a % h.store.words))
          (bit_ended h.store h.starts a (λ f. absurd (false≢true (sym e ∙ f))))

  -- nothing is marked on a protected page, so all mark bits stay
  marks_stay : (a : ℕ) → bit_at (rows_after_mark h.store.pages h.mark) h.store.words a ≡ bit_at h.mark h.store.words a
  marks_stay a = bit_ended h.store h.mark a (λ f. by_bit (bit_at h.mark h.store.words a) refl f)
    where
      by_bit : (b : Bool) → bit_at h.mark h.store.words a ≡ b
          → is_protected (state_at h.store (a / h.store.words)) ≡ true → b ≡ false
      by_bit false e f = refl
      by_bit true e f = absurd (false≢true (sym (k.invariant.marks.unprotected a e) ∙ f))

  todo_none : (a : ℕ) → bit_at (rows_after_mark h.store.pages h.todo) h.store.words a ≡ false
  todo_none a = bit_ended h.store h.todo a (λ f. may.todo a) ∙ may.todo a

  ended_world : world_of (end_mark h) ≡ edits.end_mark (λ a. lent (a / h.store.words)) (world_of h)
  unfolding end_mark store_after_mark register_of
  ended_world = λ z. record (world_of h) {
    page_state = fun_ext (λ a. states (a / h.store.words)) z;
    object_at = fun_ext objects z;
    side_entry = fun_ext (λ a. ap (λ fs. entry_at fs (a % h.store.words))
        (no_side (length h.sides) (a / h.store.words))) z;
    live = fun_ext marks_stay z;
    marked = fun_ext (λ a. blank_everywhere (rows_after_mark h.store.pages h.live) (a / h.store.words)
        (a % h.store.words)) z;
    todo = fun_ext todo_none z;
    phase = Idle;
  }

  -- memory stays in order

  -- an object of a page that wasn't protected is still there
  still : (a : ℕ) → is_protected ((world_of h).page_state a) ≡ false → (o : HeapObject) × (object_at h a ≡ Some o)
      → (o : HeapObject) × (object_at (end_mark h) a ≡ Some o)
  still a f x = (x.0, objects a ∙ ap (λ b. cond b None (object_at h a)) f ∙ x.1)

  -- an object that is there was there before
  was : (a : ℕ) (o : HeapObject) → object_at (end_mark h) a ≡ Some o → object_at h a ≡ Some o
  was a o e = by_bit (is_protected ((world_of h).page_state a)) (sym (objects a) ∙ e)
    where
      by_bit : (b : Bool) → cond b None (object_at h a) ≡ Some o → object_at h a ≡ Some o
      by_bit true f = absurd (none-some o f)
      by_bit false f = f

  -- a claim's extent was its extent before
  had : (c : Claim) (x : Extent) → extent (end_mark h) c ≡ Some x → extent h c ≡ Some x
  unfolding end_mark store_after_mark
  had (OfObject a) x e = by_object (object_at (end_mark h) a) refl e
    where
      by_object : (o : Option HeapObject) → object_at (end_mark h) a ≡ o
          → option_map (sized_extent a) (option_map object_size o) ≡ Some x → extent h (OfObject a) ≡ Some x
      by_object None f g = absurd (none-some x g)
      by_object (Some o) f g = ap (λ o. option_map (sized_extent a) (option_map object_size o)) (was a o f) ∙ g
  had (OfBuffer u) x e = e
  had (OfPlan a) x e = absurd (none-some x (sym (ap (λ fs. planned_extent (entry_at fs (a % h.store.words))
      (size_at (end_mark h) a)) (no_side (length h.sides) (a / h.store.words))) ∙ e))
  had (OfEnd n) x e =
      by_page (page_at h.store n) refl (sym (ap (end_extent h.store.words n) (page_after lent h.store n)) ∙ e)
    where
      by_open : (q : Page) (b : Bool) → is_open (page_after_mark (lent n) q).state ≡ b
          → cond b (Some (record {
            from = n * h.store.words + (page_after_mark (lent n) q).top;
            upto = n * h.store.words + h.store.words;
          })) None ≡ Some x → end_extent h.store.words n (Some q) ≡ Some x
      by_open q false f g = absurd (none-some x g)
      by_open q true f g = let (was_open, same) = open_of (lent n) q f in
          ap (λ b. cond b (Some (record {
            from = n * h.store.words + q.top;
            upto = n * h.store.words + h.store.words;
          })) None) was_open
          ∙ ap (λ t. Some (record { from = n * h.store.words + t; upto = n * h.store.words + h.store.words }))
          (sym same)
          ∙ g

      by_page : (o : Option Page) → page_at h.store n ≡ o
          → end_extent h.store.words n (option_map (page_after_mark (lent n)) o) ≡ Some x
          → extent h (OfEnd n) ≡ Some x
      by_page None f g = absurd (none-some x g)
      by_page (Some q) f g = ap (end_extent h.store.words n) f
          ∙ by_open q (is_open (page_after_mark (lent n) q).state) refl g

  rows : (xs : List (List Bool)) → AreRowsOf h.store xs
      → AreRowsOf (store_after_mark lent h.store) (rows_after_mark h.store.pages xs)
  unfolding store_after_mark
  rows xs r = ended_rows h.store.words lent 1 h.store.pages xs r

  marked_there : (a : ℕ) → bit_at h.mark h.store.words a ≡ true
      → (o : HeapObject) × (object_at (end_mark h) a ≡ Some o)
  marked_there a e = still a (k.invariant.marks.unprotected a e) (k.invariant.marks.object a e)

  none_unused : (a : ℕ) → (world_of (end_mark h)).page_state a ≡ Unused → bit_at h.mark h.store.words a ≡ false
  unfolding end_mark store_after_mark
  none_unused a e = by_bit (bit_at h.mark h.store.words a) refl
    where
      by_bit : (b : Bool) → bit_at h.mark h.store.words a ≡ b → b ≡ false
      by_bit false f = refl
      by_bit true f = let (o, there) = k.invariant.marks.object a f in
          absurd (memory_kept (lent (a / h.store.words)) ((world_of h).page_state a)
          (k.invariant.objects.with_memory a o there) (k.invariant.marks.unprotected a f)
          (sym (states (a / h.store.words)) ∙ e))

  started : (a : ℕ) → bit_at h.starts h.store.words a ≡ true
      → has_memory ((world_of (end_mark h)).page_state a) ≡ true
      → (o : HeapObject) × (object_at (end_mark h) a ≡ Some o)
  unfolding end_mark store_after_mark
  started a b f =
      let (memory, free) = memory_is (lent (a / h.store.words)) ((world_of h).page_state a)
      (ap has_memory (sym (states (a / h.store.words))) ∙ f) in
      still a free (l.objects a b memory)

  ended_laid : IsLaid (end_mark h)
  unfolding end_mark store_after_mark
  ended_laid = record {
    starts = rows h.starts l.starts;
    live = rows h.mark l.mark;
    mark = lengths_blank (rows_after_mark h.store.pages h.live) ∙ rows h.live l.live;
    todo = rows h.todo l.todo;
    sides = record {
      pages = length-replicate (length h.sides) [] ∙ l.sides.pages ∙ sym (length_after lent 1 h.store.pages);
      rising = each_replicate (AreRising h.store.words 0) (length h.sides) [] tt;
    };
    registers = l.registers;
    objects = λ a b f. started a (bit_was h.store h.starts a b) f;
    apart = λ c d x y e g. l.apart c d x y (had c x e) (had d y g);
    planned = λ a n o e f. absurd (not_planned n (sym (ap (λ fs. entry_at fs (a % h.store.words))
        (no_side (length h.sides) (a / h.store.words))) ∙ e));
    live_objects = λ a b f. marked_there a (bit_was h.store h.mark a b);
    unused = λ a e. marks_stay a ∙ none_unused a e;
  }
    where
      not_planned : (n : ℕ) → NoEntry ≡ Planned n → ⊥
      not_planned n e = cc

  given : Each h.store.pages HasGiven → Each (pages_after_mark lent 1 h.store.pages) HasGiven
  given g i q e = by_page (slice_get h.store.pages i) refl (sym (get_after lent 1 h.store.pages i (1 + i) refl) ∙ e)
    where
      by_page : (o : Option Page) → slice_get h.store.pages i ≡ o
          → option_map (page_after_mark (lent (1 + i))) o ≡ Some q → HasGiven q
      by_page None f z = absurd (none-some q z)
      by_page (Some x) f z = subst HasGiven (same_Some _ _ z) (λ is_now. let (was_open, same) = open_of (lent
          (1 + i)) x is_now in
          omega (arith, g i x f was_open, same))

  end_carries : Carries h (end_mark h) (edits.end_mark (λ a. lent (a / h.store.words)))
  unfolding end_mark store_after_mark
  end_carries = record {
    size = alike h (end_mark h) refl refl (ended_sized h.store lent).frames refl refl refl refl;
    laid = λ z. ended_laid;
    given = given;
    words = λ z. record { threads = z.threads; globals = z.globals };
    world = ended_world;
  }

-- nothing is grey

nothing_todo : (h : HeapState) → OnAccepted (λ (u : Unit {0}). ((a : ℕ) → (world_of h).todo a ≡ false)
    × ((g : ℕ) → (world_of h).global_todo g ≡ false)) (refuse_if (has_todo h) refusals.TodoLeft)
unfolding has_todo
nothing_todo h = by_test (not (bit_count h.todo == 0) || list_any (λ (g : Global). g.todo) h.globals) refl
  where
    todo_at : list_any (λ (g : Global). g.todo) h.globals ≡ false → (g : ℕ) (o : Option Global)
        → slice_get h.globals g ≡ o → todo_in o ≡ false
    todo_at e g None f = refl
    todo_at e g (Some x) f = none_passes (λ (g : Global). g.todo) h.globals e g x f

    by_test : (b : Bool) → not (bit_count h.todo == 0) || list_any (λ (g : Global). g.todo) h.globals ≡ b
        → OnAccepted (λ (u : Unit {0}). ((a : ℕ) → (world_of h).todo a ≡ false)
        × ((g : ℕ) → (world_of h).global_todo g ≡ false)) (refuse_if b refusals.TodoLeft)
    by_test true e = tt
    by_test false e =
        let (bits, globals) = or_parts (not (bit_count h.todo == 0)) (list_any (λ
        (g : Global). g.todo) h.globals) e in (
          (λ a. none_set h.todo (eqb-true (bit_count h.todo) 0 (not-false (bit_count h.todo == 0) bits))
              (a / h.store.words) (a % h.store.words)),
          (λ g. todo_at globals g (slice_get h.globals g) refl),
        )

nothing_pending : (h : HeapState) → OnAccepted (λ (u : Unit {0}). (t : ℕ) → (world_of h).barrier t ≡ None)
    (none_pending (first_pending h.threads))
unfolding first_pending
nothing_pending h = by_found (first_pending h.threads) refl
  where
    by_found : (o : Option ℕ) → first_pending h.threads ≡ o
        → OnAccepted (λ (u : Unit {0}). (t : ℕ) → (world_of h).barrier t ≡ None) (none_pending o)
    by_found (Some t) e = tt
    by_found None e = λ t. by_thread t (slice_get h.threads t) refl
      where
        by_thread : (t : ℕ) (o : Option ThreadState) → slice_get h.threads t ≡ o → barrier_in o ≡ None
        by_thread t None f = refl
        by_thread t (Some x) f = ap (option_map as_barrier)
            (no_some x.barrier (position_none (λ (y : ThreadState). is_some y.barrier) h.threads e t x f))

-- a mark may end
pub may_end : (h : HeapState) → OnAccepted (λ (z : HeapState × Answer). MayEndMark (world_of h) × (z.0 ≡ end_mark h))
    (end_mark_outcome h)
unfolding end_mark_outcome
may_end h = on_has (may_scan h) _ _ _ (is_scanning h) (λ u i.
    on_has (refuse_if (has_todo h) refusals.TodoLeft) _ _ _ (nothing_todo h) (λ v todo.
    on_has (none_pending (first_pending h.threads)) _ _ _ (nothing_pending h) (λ x barriers.
    (record { scans = i; todo = todo.0; globals = todo.1; barriers = barriers }, refl))))

module _ {h : HeapState} {p p0 : PlainHeap} (s : IsStore h.store) (k : Holds h p p0) where
  -- a mark ends
  pub end_mark_holds : (w : ℕ) → RowHolds h p p0 (Worker w) steps.EndMark (end_mark_outcome h)
  unfolding plain_step plain_answer
  end_mark_holds w = on_accepted (end_mark_outcome h) _ _ (may_end h) (λ z may.
      let c = end_carries s k may.0 in
      subst (λ g. StepHolds h p p0 (Worker w) steps.EndMark g z.1) (sym may.1)
      (row_by k c (stays h p) (EndMark _ may.0) tt))

  -- each reachable object is live, and each uncopied object is unreachable
  pub ended_finds : OnAccepted (λ (z : HeapState × Answer). FindsLive z.0 p p0
      × PlannedIsUnreachable (world_of h) (births_of p)) (end_mark_outcome h)
  ended_finds = on_accepted (end_mark_outcome h) _ _ (may_end h) (λ z may.
      let w = world_of h in
      let after = ended_world s k may.0 in
      let lent : ℕ → Bool = λ a. is_lent h.threads (a / h.store.words) in (
        subst (λ g. FindsLive g p p0) (sym may.1) (record {
          reachable = subst (λ v. ReachableIsLive v (births_of p)) (sym after)
              (reachable_is_live w (births_of p) (births_of p0) k.invariant may.0 lent);
          live = subst (λ v. LiveWasReachable v (births_of p0)) (sym after)
              (live_was_reachable w (births_of p) (births_of p0) k.invariant may.0 lent);
        }),
        planned_unreachable w (births_of p) (births_of p0) k.invariant may.0,
      ))
