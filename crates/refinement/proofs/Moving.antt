-- Objects are copied, by workers and by threads that meet them, and references are forwarded to the copies.
use Rattle.std.proofs.Common.{◌≡◌, ◌≢◌, ◌⊎◌, inl, inr, ℕ, zero, suc, ◌+◌, ◌-◌, ◌*◌, ◌/◌, ◌%◌, ◌<◌, ◌≤◌, Bool, true}
use Rattle.std.proofs.Common.{false}
use Rattle.std.proofs.Common.{not, cond, List, [], ◌∷◌, Option, Some, None, refl, sym, ◌∙◌, ap, ap₂, subst, arith}
use Rattle.std.proofs.Common.{div-add-mod', ne_eqb, eq-eqb}
use Rattle.std.specs.List.{slice_get}
use Rattle.std.specs.Prelude.{Ok, Err}
use Rattle.std.specs.Option.{option_map}
use Rattle.std.proofs.Math.Nat.{mod-lt, mul-le-mul_left}
use Rattle.std.proofs.lemmas.Bool.{true≢false}
use Rattle.std.proofs.lemmas.Nat.{div-mul-add, mod-mul-add, mul-add-lt}
use Rattle.std.proofs.lemmas.Option.{slice_get_within, same_Some}
use Rattle.refword.specs.Words.{IsAddress}
use Rattle.model.specs.declared.records.Barrier.{Barrier}
use Rattle.model.specs.declared.records.Counter.TheVariants as counters
use Rattle.model.specs.declared.records.Forwarding.{Forwarding}
use Rattle.model.specs.declared.records.Page.{Page}
use Rattle.model.specs.declared.records.PageState.TheVariants.{Open}
use Rattle.model.specs.declared.records.Phase.{Phase}
use Rattle.model.specs.declared.records.Phase.TheVariants.{ProtectCrossing}
use Rattle.model.specs.declared.steps.Actor.TheVariants.{Thread, Worker}
use Rattle.model.specs.declared.steps.Step.TheVariants as steps
use Rattle.model.specs.declared.steps.Answer.TheVariants as answers
use Rattle.model.specs.declared.steps.Refusal.TheVariants as refusals
use Rattle.model.specs.Phases.{is_idle, is_crossing, is_protect_crossing}
use Rattle.model.specs.Stores.{StoreState, page_at, state_at, state_in, is_from, is_protected}
use Rattle.model.specs.Owning.{IsStore}
use Rattle.model.specs.Holding.{IsHeap, AreRising}
use Rattle.model.specs.States.{HeapState, ThreadState, Reference}
use Rattle.model.specs.Threads.{has_crossed}
use Rattle.model.specs.Bits.{of_page}
use Rattle.model.specs.Marks.{entry_at}
use Rattle.model.specs.Registers.{register_of, with_register, let_through, held_back}
use Rattle.model.specs.Loads.{barrier_of_thread, with_barrier, set_now_of, is_refused, gc_trap_due}
use Rattle.model.specs.Checkpoints.{first_behind, none_behind, all_crossed}
use Rattle.model.specs.Plain.{PlainHeap, plain_step, plain_answer}
use Rattle.model.specs.Moves.{with_copy, copied_by, copied_first, place_by, moved_word}
use Rattle.model.specs.Emptying.{crossed_if_protecting, entry_on, copy_outcome}
use Rattle.model.specs.Traps.{gc_trap, scrub_word}
use Rattle.model.proofs.Plans.{rising_within}
use Rattle.model.proofs.Memory.{page_there}
use Rattle.page.proofs.Lying.{records_few}
use Rattle.laws.specs.AddressHeap.{HeapObject, To, Planned, Copied, names}
use Rattle.laws.specs.Invariant.{IsKept}
use Rattle.laws.specs.Transitions.{Copy, TrapMoved, TrapCopied, ScrubMoved, ScrubCopied}
use Rattle.laws.proofs.Barriers as barriers
use Rattle.laws.proofs.Barriers.{OpenLoad, pending_kept}
use Rattle.laws.proofs.Reading.{register_kept}
use Rattle.refinement.specs.Worlds.{world_of, as_word, as_barrier, barrier_in, object_at}
use Rattle.refinement.specs.Worlds as worlds
use Rattle.refinement.specs.PlainHeaps.{births_of}
use Rattle.refinement.specs.Standing.{Holds, StepHolds}
use Rattle.refinement.specs.Roots.{IsLoad}
use Rattle.refinement.proofs.Accepted.{OnAccepted, on_accepted, on_has, on_some, on_test, on_unless}
use Rattle.refinement.proofs.Carrying.{RowHolds, and_then, row_by, read_by, stays}
use Rattle.refinement.proofs.Changes.{list_of, list_read}
use Rattle.refinement.proofs.Crossings.{none_is_behind}
use Rattle.refinement.proofs.Threads.{barrier_carries, register_carries}
use Rattle.refinement.proofs.Loads.{load, in_world, opened}
use Rattle.refinement.proofs.Copies.{planned_entry, copied_entry, same_entry, copy_carries}

-- the entry of a number

-- the entry of an index is that of its offset
entry_numbered : (w low : ℕ) (fs : List Forwarding) (e : ℕ) (f : Forwarding) → AreRising w low fs
    → slice_get fs e ≡ Some f → worlds.entry_at fs f.offset ≡ worlds.entry_of f.copied f.to
entry_numbered w low [] e f r g = absurd (cc)
entry_numbered w low (x ∷ fs) zero f r g =
    let is : x ≡ f = same_Some _ _ g in
    ap (λ b. cond b (worlds.entry_of x.copied x.to) (worlds.entry_at fs f.offset))
    (eq-eqb x.offset f.offset (ap (λ (y : Forwarding). y.offset) is))
    ∙ ap (λ (y : Forwarding). worlds.entry_of y.copied y.to) is
entry_numbered w low (x ∷ fs) (suc e) f r g =
    let k = rising_within w (x.offset + 1) fs e f r.2 g in
    ap (λ b. cond b (worlds.entry_of x.copied x.to) (worlds.entry_at fs f.offset))
    (ne_eqb x.offset f.offset (λ z. absurd (omega (arith, z, k.0))))
    ∙ entry_numbered w (x.offset + 1) fs e f r.2 g

-- a number on an open page is an address
open_address : (s : StoreState) (n : ℕ) → IsStore s → state_at s (n / s.words) ≡ Open → IsAddress n
unfolding state_at
open_address s n h e = by_page (page_at s (n / s.words)) refl e
  where
    by_page : (o : Option Page) → page_at s (n / s.words) ≡ o → state_in o ≡ Open → IsAddress n
    by_page None a k = absurd (cc)
    by_page (Some p) a k =
        let (one, at) = page_there s (n / s.words) p a in
        let low = slice_get_within s.pages (n / s.words - 1) p at in
        let few = records_few s h in
        let offset = mod-lt n h.sized.words_low in
        let whole = div-add-mod' n s.words in
        let above : n / s.words * 1 ≤ n / s.words * s.words = mul-le-mul_left (n / s.words) h.sized.words_low in
        let high = mul-add-lt (n / s.words) s.words (n % s.words) 1048576 (omega (arith, one, low, few)) offset in
        record { above = omega (arith, above, one, whole); below = omega (arith, high, whole, h.sized.words) }

-- phases

protecting_is : (f : Phase) → f ≡ ProtectCrossing → is_protect_crossing f ≡ true
protecting_is f e = ap is_protect_crossing e

not_protecting : (f : Phase) → is_protect_crossing f ≡ false → f ≢ ProtectCrossing
not_protecting f e k = true≢false (sym (ap is_protect_crossing k) ∙ e)

-- an address that a thread may not use is on a protected page
pub held_protected : (h : HeapState) (t a : ℕ) → is_refused (let_through h t a) ≡ true
    → is_protected (state_at h.store (a / h.store.words)) ≡ true
unfolding let_through
held_protected h t a e = by_test (is_protected (state_at h.store (a / h.store.words))) e
  where
    by_test : (b : Bool)
        → is_refused (cond b (held_back h.phase (has_crossed (slice_get h.threads t))) (Ok tt)) ≡ true → b ≡ true
    by_test true k = refl
    by_test false k = absurd (cc)

module _ {h : HeapState} {p p0 : PlainHeap} (s : IsStore h.store) (k : Holds h p p0) where
  pub crossed : OnAccepted (λ (u : Unit {0}). (t : ℕ) → (world_of h).crossed t ≡ true) (all_crossed h)
  unfolding all_crossed
  crossed = by_found (first_behind h.threads) refl
    where
      by_found : (o : Option ℕ) → first_behind h.threads ≡ o
          → OnAccepted (λ (u : Unit {0}). (t : ℕ) → (world_of h).crossed t ≡ true) (none_behind o)
      by_found (Some t) e = tt
      by_found None e = none_is_behind h.threads e

  -- if pages are being protected, all have crossed
  pub all_where_protecting : OnAccepted
      (λ (u : Unit {0}). h.phase ≡ ProtectCrossing → (t : ℕ) → (world_of h).crossed t ≡ true) (crossed_if_protecting h)
  unfolding crossed_if_protecting
  all_where_protecting = by_phase (is_protect_crossing h.phase) refl
    where
      by_phase : (b : Bool) → is_protect_crossing h.phase ≡ b
          → OnAccepted (λ (u : Unit {0}). h.phase ≡ ProtectCrossing → (t : ℕ) → (world_of h).crossed t ≡ true)
          (cond b (all_crossed h) (Ok tt))
      by_phase true f = on_accepted (all_crossed h) _ _ crossed (λ u all g. all)
      by_phase false f = λ g. absurd (true≢false (sym (protecting_is h.phase g) ∙ f))

  -- so they aren't being protected any more
  closed_checkpoint : (h.phase ≡ ProtectCrossing → (t : ℕ) → (world_of h).crossed t ≡ true) → h.phase ≢ ProtectCrossing
  closed_checkpoint all e =
      let (t, waits) = k.invariant.phases.waits (ap is_crossing e) in true≢false (sym (all e t) ∙ waits)

  entry_known : (page e : ℕ) (f : Forwarding) → entry_on h page e ≡ Some f → slice_get (of_page h.sides page) e ≡ Some f
  unfolding entry_on
  entry_known page e f g = by_test (is_from (state_at h.store page)) g
    where
      by_test : (b : Bool) → cond b (slice_get (of_page h.sides page) e) None ≡ Some f
          → slice_get (of_page h.sides page) e ≡ Some f
      by_test true z = z
      by_test false z = absurd (cc)

  rising : (page : ℕ) → AreRising h.store.words 0 (of_page h.sides page)
  rising zero = tt
  rising (suc i) = subst (AreRising h.store.words 0) (sym (list_read h.sides i)) (by_list (slice_get h.sides i) refl)
    where
      by_list : (o : Option (List Forwarding)) → slice_get h.sides i ≡ o → AreRising h.store.words 0 (list_of o)
      by_list None e = tt
      by_list (Some fs) e = k.laid.sides.rising i fs e

  -- a worker copies an object, once no page is being protected
  pub copy_holds : (w page e : ℕ) → RowHolds h p p0 (Worker w) (steps.Copy page e) (copy_outcome h page e)
  unfolding copy_outcome plain_step plain_answer
  copy_holds w page e = on_unless (is_idle h.phase) _ _ _ (λ busy.
      on_has (crossed_if_protecting h) _ _ _ all_where_protecting (λ u all.
      on_some (entry_on h page e) _ _ _ (λ f found.
      on_unless f.copied _ _ _ (λ fresh.
      let at = entry_known page e f found in
      let low = rising_within h.store.words 0 (of_page h.sides page) e f (rising page) at in
      let plan : (world_of h).side_entry (page * h.store.words + f.offset) ≡ Planned f.to =
      ap₂ (λ n o. worlds.entry_at (of_page h.sides n) o) (div-mul-add page h.store.words f.offset low.1)
      (mod-mul-add page h.store.words f.offset low.1)
      ∙ entry_numbered h.store.words 0 (of_page h.sides page) e f (rising page) at
      ∙ ap (λ b. worlds.entry_of b f.to) fresh in
      let (q, here) = k.invariant.objects.planned_object (page * h.store.words + f.offset) f.to plan in
      row_by k (copy_carries s k.laid k.invariant.objects (page * h.store.words + f.offset) f.to q plan here)
      (stays h p)
      (Copy (page * h.store.words + f.offset) f.to q (closed_checkpoint all) plan here) tt))))

  -- the address of the object at an address, once it is copied
  pub record Leads (a : ℕ) : Type 0 where
    pub place : ℕ
    pub is_address : IsAddress place
    pub on_open : state_at h.store (place / h.store.words) ≡ Open
    pub word : place_by (entry_at h a) a ≡ place
    -- it was copied before, or it is copied now
    pub how : (((world_of h).side_entry a ≡ Copied place) × (copied_first h a ≡ h))
        ⊎ ((q : HeapObject) × ((world_of h).side_entry a ≡ Planned place) × (object_at h a ≡ Some q)
        × (copied_first h a ≡ with_copy h a place))

  -- a reference that represents a kept birth, on a protected page
  pub leads : (a : ℕ) (bit : Bool) (x : Option ℕ) → names (world_of h) (To a bit) ≡ Some x
      → ((b : ℕ) → x ≡ Some b → IsKept (world_of h) (births_of p) b)
      → is_protected (state_at h.store (a / h.store.words)) ≡ true → Leads a
  unfolding copied_first
  leads a bit x named kept guarded =
      elim (barriers.entry_of (world_of h) (births_of p) (births_of p0) k.invariant a bit x named kept guarded) [
        | inl (m, e) ↦ (
            let (f, is, fresh, to) = planned_entry (entry_at h a) m (sym (same_entry h a) ∙ e) in
            let (q, here) = k.invariant.objects.planned_object a m e in
            record {
              place = m;
              is_address = open_address h.store m s (k.invariant.objects.planned_open a m e);
              on_open = k.invariant.objects.planned_open a m e;
              word = ap (λ o. place_by o a) is ∙ to;
              how = inr (
                q,
                e,
                here,
                ap (copied_by h a) is ∙ ap (λ b. cond b h (with_copy h a f.to)) fresh
                    ∙ ap (with_copy h a) to,
              );
            }
            )
        | inr (m, e) ↦ (
            let (f, is, done, to) = copied_entry (entry_at h a) m (sym (same_entry h a) ∙ e) in
            record {
              place = m;
              is_address = open_address h.store m s (k.invariant.objects.copied_open a m e);
              on_open = k.invariant.objects.copied_open a m e;
              word = ap (λ o. place_by o a) is ∙ to;
              how = inl (e, ap (copied_by h a) is ∙ ap (λ b. cond b h (with_copy h a f.to)) done);
            }
            )
      ]

  module _ (d : IsHeap h) (t : ℕ) (x : ThreadState) (at : slice_get h.threads t ≡ Some x) where
    -- a GC trap: the reference is forwarded, its object copied first if it isn't copied yet
    pub gc_holds : (b : Barrier) → barrier_of_thread h t ≡ Some b → gc_trap_due h t b.now ≡ true
        → RowHolds h p p0 (Thread t) steps.Trap (gc_trap h t b b.now)
    unfolding plain_step plain_answer moved_word with_copy
    gc_holds b first due = by_now b.now refl due
      where
        open_load : OpenLoad (world_of h) (births_of p) t (as_barrier b)
        open_load = opened s d k t x at b first

        loads : (n : ℕ) (bit : Bool) → IsAddress n → IsLoad h.config.registers (set_now_of (Some (n, bit)) b)
        loads n bit k2 =
            let l = load s d k t x at b first in record { target = l.target; raw = l.raw; now = k2 }

        by_now : (v : Reference) → b.now ≡ v → gc_trap_due h t v ≡ true
            → RowHolds h p p0 (Thread t) steps.Trap (gc_trap h t b v)
        by_now None e f = absurd (cc)
        by_now (Some (a, bit)) e f = on_test (is_protect_crossing h.phase) _ _ _ (λ phase.
            let word : as_word b.now ≡ To a bit = ap as_word e in
            let z = leads a bit open_load.pending.1 (ap (names (world_of h)) (sym word) ∙ open_load.barrier.now.names)
            (pending_kept (world_of h) (births_of p) t (as_barrier b) open_load) (held_protected h t a f) in
            subst (λ n. StepHolds h p p0 (Thread t) steps.Trap
            (with_barrier (copied_first h a) t (set_now_of (Some (n, bit)) b) counters.Gc) answers.Moved) (sym z.word)
            (elim z.how [
              | inl (copied, same) ↦ subst (λ g. StepHolds h p p0 (Thread t) steps.Trap
                  (with_barrier g t (set_now_of (Some (z.place, bit)) b) counters.Gc) answers.Moved) (sym same)
                  (row_by k (barrier_carries h t x at (set_now_of (Some (z.place, bit)) b) counters.Gc
                  (loads z.place bit z.is_address)) (stays h p)
                  (TrapMoved t (as_barrier b) a z.place bit (in_world s d k t x at b first) word copied) tt)
              | inr (q, plan, here, same) ↦ subst (λ g. StepHolds h p p0 (Thread t) steps.Trap
                  (with_barrier g t (set_now_of (Some (z.place, bit)) b) counters.Gc) answers.Moved) (sym same)
                  (row_by k (and_then (copy_carries s k.laid k.invariant.objects a z.place q plan here)
                  (barrier_carries (with_copy h a z.place) t x at (set_now_of (Some (z.place, bit)) b) counters.Gc
                  (loads z.place bit z.is_address))) (stays h p)
                  (TrapCopied t (as_barrier b) a z.place bit q (in_world s d k t x at b first) word plan here
                  (not_protecting h.phase phase)) tt)
            ]))

    -- a register that the thread may not use is corrected
    pub scrub_word_holds : (r a : ℕ) (bit : Bool) → x.barrier ≡ None → r < h.config.registers
        → register_of h t r ≡ Some (a, bit) → RowHolds h p p0 (Thread t) (steps.Scrub r) (scrub_word h t r (a, bit))
    unfolding plain_step plain_answer moved_word with_copy
    scrub_word_holds r a bit idle low is = by_refused (is_refused (let_through h t a)) refl
      where
        word : as_word (register_of h t r) ≡ To a bit
        word = ap as_word is

        closed : (world_of h).barrier t ≡ None
        closed = ap barrier_in at ∙ ap (option_map as_barrier) idle

        moved : is_refused (let_through h t a) ≡ true → is_protect_crossing h.phase ≡ false
            → StepHolds h p p0 (Thread t) (steps.Scrub r)
            (with_register (copied_first h a) t r (Some (place_by (entry_at h a) a, bit))) answers.Moved
        moved f phase =
            let z = leads a bit ((births_of p).register t r) (ap (names (world_of h)) (sym word)
            ∙ (k.invariant.words.registers t r).names) (register_kept (world_of h) (births_of p) t r)
            (held_protected h t a f) in
            subst (λ n. StepHolds h p p0 (Thread t) (steps.Scrub r)
            (with_register (copied_first h a) t r (Some (n, bit))) answers.Moved) (sym z.word) (elim z.how [
              | inl (copied, same) ↦ subst (λ g. StepHolds h p p0 (Thread t) (steps.Scrub r)
                  (with_register g t r (Some (z.place, bit))) answers.Moved) (sym same)
                  (row_by k (register_carries h t x at r (Some (z.place, bit)) k.laid z.is_address low) (stays h p)
                  (ScrubMoved t r a z.place bit closed word copied) tt)
              | inr (q, plan, here, same) ↦ subst (λ g. StepHolds h p p0 (Thread t) (steps.Scrub r)
                  (with_register g t r (Some (z.place, bit))) answers.Moved) (sym same)
                  (row_by k (and_then (copy_carries s k.laid k.invariant.objects a z.place q plan here)
                  (register_carries (with_copy h a z.place) t x at r (Some (z.place, bit))
                  ((copy_carries s k.laid k.invariant.objects a z.place q plan here).laid k.laid) z.is_address low))
                  (stays h p)
                  (ScrubCopied t r a z.place bit q closed word plan here (not_protecting h.phase phase)) tt)
            ])

        by_refused : (b : Bool) → is_refused (let_through h t a) ≡ b → RowHolds h p p0 (Thread t) (steps.Scrub r)
            (cond (not b) (Ok (h, answers.Clean)) (cond (is_protect_crossing h.phase) (Err refusals.Stall)
            (Ok (with_register (copied_first h a) t r (Some (place_by (entry_at h a) a, bit)), answers.Moved))))
        by_refused false f = read_by k tt
        by_refused true f = on_test (is_protect_crossing h.phase) _ _ _ (λ phase. moved f phase)
