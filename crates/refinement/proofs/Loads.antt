-- Loads: the steps that begin one, of a field or of a global, that mark its reference, heal its place, or end it.
use Rattle.std.proofs.Common.{◌≡◌, ℕ, ◌+◌, ◌%◌, ◌<◌, length, get_or, Option, Some, None, false, refl, sym, ◌∙◌, ap}
use Rattle.std.proofs.Common.{subst, arith, Bool, true, cond, not}
use Rattle.std.specs.List.{slice_get}
use Rattle.std.proofs.lemmas.Option.{get_or_from_slice_get, none-some, same_Some}
use Rattle.std.proofs.Math.Nat.{zero-div}
use Rattle.refword.specs.Words.{read_word, IsWord, bits_of}
use Rattle.model.specs.declared.steps.Actor.TheVariants.{Thread}
use Rattle.model.specs.declared.steps.Step.TheVariants as steps
use Rattle.model.specs.declared.records.Global.{Global}
use Rattle.model.specs.declared.records.Place.TheVariants as places
use Rattle.model.specs.Stores.{word_at}
use Rattle.model.specs.Owning.{IsStore}
use Rattle.model.specs.Holding.{IsHeap}
use Rattle.model.specs.States.{HeapState, ThreadState, Reference, flat}
use Rattle.model.specs.References.{read_reference, global_of, word_of_global, with_global, with_place, field_address}
use Rattle.model.specs.Loads.{with_barrier, load_outcome, load_global_outcome, new_barrier, barrier_of_thread}
use Rattle.model.specs.Loads.{with_loaded, heal_outcome, heal_place, end_load, finish_outcome, trap_due}
use Rattle.model.specs.Loads.{gc_trap_due, nmt_trap_due, may_finish, bits_at, are_bits_of, set_healed, set_now_of}
use Rattle.model.specs.Loads.{nmt_trap}
use Rattle.model.specs.Threads.{is_parked_in, barrier_of, has_crossed}
use Rattle.model.specs.Outcome.{no_register, no_global}
use Rattle.model.specs.Plain.{PlainHeap, Object, plain_step, plain_answer, name_of, object_of, field_of, Pending}
use Rattle.model.specs.Plain.{pending_in}
use Rattle.model.specs.declared.records.Place.{Place}
use Rattle.model.proofs.Lists.{get_within}
use Rattle.laws.specs.AddressHeap.{HeapObject, Null, To, field, names as names_of, Word}
use Rattle.laws.specs.BirthHeap.{ref}
use Rattle.laws.specs.Edits.{set_barrier, plain_set_pending}
use Rattle.laws.specs.Effects.{load_at, finish_at}
use Rattle.laws.specs.Effects as effects
use Rattle.laws.specs.Transitions.{Load, LoadGlobal, TrapMarked, HealGlobal, HealField, HealChanged, Finish}
use Rattle.refinement.specs.Worlds.{world_of, as_word, as_read, object_at, word_in_memory, global_in, as_place}
use Rattle.refinement.specs.Worlds.{as_barrier, barrier_in}
use Rattle.refinement.specs.PlainHeaps.{births_of, refs_in, as_pair}
use Rattle.refinement.specs.Claims.{IsLaid}
use Rattle.refinement.specs.Standing.{Holds, StepHolds}
use Rattle.refinement.proofs.Accepted.{on_some, on_test, on_truth}
use Rattle.refinement.proofs.ObjectWords.{read_refs, field_of_read}
use Rattle.refinement.proofs.Objects.{there}
use Rattle.refinement.proofs.Carrying.{Carries, RowHolds, row_by, agrees, becomes, read_by, and_then, stays}
use Rattle.refinement.proofs.Rooted.{stored_word, global_word, load_there, stored_again}
use Rattle.refinement.proofs.Written.{word_there, field_carries}
use Rattle.refinement.proofs.Threads.{barrier_carries, loaded_carries, global_carries}
use Rattle.refinement.proofs.PlainSteps.{loading_follows, finishing_follows}
use Rattle.refinement.proofs.Verdicts.{Passed, first_false, second_false, is_register, is_global}
use Rattle.std.specs.Prelude.{Ok}
use Rattle.std.specs.Option.{option_map}
use Rattle.std.proofs.lemmas.Bool.{ltb-true, eqb-true}
use Rattle.model.specs.declared.steps.Answer.TheVariants as answers
use Rattle.model.specs.declared.records.Barrier.{Barrier}
use Rattle.model.specs.declared.records.Counter.TheVariants as counters
use Rattle.refword.proofs.Reading.{reads_back}
use Rattle.laws.specs.Invariant.{IsPlace}
use Rattle.laws.proofs.Basics.{current_there}
use Rattle.laws.proofs.Barriers.{OpenLoad, opened_of}
use Rattle.refinement.specs.Roots.{IsLoad}
use Rattle.model.specs.declared.records.Phase.{Phase}
use Rattle.model.specs.declared.records.Phase.TheVariants.{Idle, MarkCrossing, Scanning, ProtectCrossing, Relocating}
use Rattle.model.specs.Phases.{is_marking, may_nmt_trap, same_bit}
use Rattle.model.specs.declared.config.Config.{Config}
use Rattle.model.specs.Marks.{with_mark, marked_word}
use Rattle.model.specs.Moves.{copied_for}
use Rattle.laws.specs.Edits.{mark_word}
use Rattle.laws.specs.Edits as edits
use Rattle.refinement.proofs.Copies.{marks_first}
use Rattle.refinement.proofs.Naming.{on_named, on_field}
use Rattle.refinement.proofs.References.{less_is}

-- no object is at address 0
pub none_at_zero : (h : HeapState) → names_of (world_of h) (To 0 false) ≡ None
none_at_zero h = rw (zero-div h.store.words, zero-div h.store.words) refl

-- a number in memory that represents something is a reference
pub read_named : (h : HeapState) (bits : ℕ) (x : Option ℕ) → names_of (world_of h) (word_in_memory bits) ≡ Some x
    → word_in_memory bits ≡ as_word (read_reference bits)
read_named h bits x e = by_word (read_word bits) e
  where
    by_word : (r : Option Reference) → names_of (world_of h) (as_read r) ≡ Some x → as_read r ≡ as_word (flat r)
    by_word None e = absurd (none-some x (sym (none_at_zero h) ∙ e))
    by_word (Some w) e = refl

-- the reference in a global
pub global_same : (o : Option Global) → global_in o ≡ as_word (word_of_global o)
global_same None = refl
global_same (Some g) = refl

-- the reference in a field is in the object
pub field_is : (h : HeapState) → IsStore h.store → IsLaid h → (a : ℕ) (q : HeapObject) (e : object_at h a ≡ Some q)
    → (i bits : ℕ) → i < length q.refs → word_at h.store (a + (1 + i)) ≡ Some bits → field q i ≡ word_in_memory bits
field_is h s l a q e i bits m f =
    let c = there h a q e in
    let within : i < c.read.shape.refs =
    omega (arith, m, read_refs h.config.layouts c.words (a % h.store.words) q c.read) in
    let at : slice_get c.words (a % h.store.words + 1 + i) ≡ Some bits =
    ap (slice_get c.words) (omega arith) ∙ sym (word_there h s l a q e (1 + i) 0 (omega (arith, m))) ∙ f in
    get_or_from_slice_get q.refs i (word_in_memory bits) Null
    (field_of_read h.config.layouts c.words (a % h.store.words) q c.read i bits within at)

-- a field of an object of the reference model
pub plain_field : (o : Option Object) (i : ℕ) → i < length (refs_in o) → field_of o i ≡ Some (get_or (refs_in o) i None)
plain_field None i m = absurd (omega (arith, m))
plain_field (Some o) i m =
    let (x, e) = get_within o.refs i m in e ∙ ap Some (sym (get_or_from_slice_get o.refs i x None e))

-- the barrier of a load that begins
load_carries : (h : HeapState) (t : ℕ) (x : ThreadState) → slice_get h.threads t ≡ Some x → (r : ℕ) (z : Place)
    → (w : Reference) (v : Word) → as_word w ≡ v → IsWord w → r < h.config.registers
    → Carries h (with_barrier h t (new_barrier r z w) counters.Loads)
    (set_barrier t (effects.new_barrier r (as_place z) v))
load_carries h t x at r z w v same word low =
    subst (λ v. Carries h (with_barrier h t (new_barrier r z w) counters.Loads)
    (set_barrier t (effects.new_barrier r (as_place z) v)))
    same (barrier_carries h t x at (new_barrier r z w) counters.Loads (record { target = low; raw = word; now = word }))

module _ {h : HeapState} {p p0 : PlainHeap} (s : IsStore h.store) (d : IsHeap h) (k : Holds h p p0) (t : ℕ) where
  -- a field is loaded
  pub load_holds : (r o i : ℕ) → Passed h t (steps.Load r o i)
      → RowHolds h p p0 (Thread t) (steps.Load r o i) (load_outcome h t r o i)
  unfolding load_outcome plain_step plain_answer name_of
  load_holds r o i g = on_named k t o _ _ (λ a names. on_field names i _ _ _ (λ n low spot.
      on_some (word_at h.store n) _ _ _ (λ v third.
      let q = names.object in
      let found : Option ℕ = ref (births_of p) q.birth i in
      let read : field q i ≡ word_in_memory v =
      field_is h s k.laid a q names.uses.here i v low (ap (word_at h.store) spot ∙ third) in
      let same : as_word (read_reference v) ≡ field q i =
      sym (read ∙ read_named h v found (ap (names_of (world_of h)) (sym read) ∙ (names.holds.refs i).names)) in
      let plain : field_of (object_of p (name_of p t o)) i ≡ Some found =
      ap (λ b. field_of (object_of p b) i) names.reads.birth
      ∙ plain_field (slice_get p.objects q.birth) i (omega (arith, low, names.holds.refs_length)) in
      row_by k (load_carries h t g.thread g.there r (places.Field a i) (read_reference v) (field q i) same
      (stored_word v)
      (is_register h r (first_false (no_register h r) (no_register h o) g.indices)))
      (agrees (loading_follows k t g.thread g.there r _ found plain)
      (ap (λ b. load_at t r b i (births_of p)) (sym names.reads.birth)))
      (Load t r o a q i names.uses low (ap is_parked_in g.there ∙ g.awake refl)) tt)))

  -- a global is loaded
  pub load_global_holds : (r n : ℕ) → Passed h t (steps.LoadGlobal r n)
      → RowHolds h p p0 (Thread t) (steps.LoadGlobal r n) (load_global_outcome h t r n)
  unfolding load_global_outcome plain_step plain_answer global_of
  load_global_holds r n g =
      let low = is_global h n (second_false (no_register h r) (no_global h n) g.indices) in
      let (found, plain) = get_within p.globals n (omega (arith, low, k.roots.globals)) in
      row_by k (load_carries h t g.thread g.there r (places.Global n) (global_of h n) ((world_of h).global n)
      (sym (global_same (slice_get h.globals n))) (global_word h n k.words)
      (is_register h r (first_false (no_register h r) (no_global h n) g.indices)))
      (agrees (loading_follows k t g.thread g.there r (slice_get p.globals n) found plain)
      (ap (λ o. plain_set_pending t (r, flat o) (births_of p)) (sym plain)))
      (LoadGlobal t r n (less_is n (length h.globals) low) (ap is_parked_in g.there ∙ g.awake refl)) tt

-- a thread's barrier, in the laws' terms
barrier_same : (o : Option ThreadState) → barrier_in o ≡ option_map as_barrier (barrier_of o)
barrier_same None = refl
barrier_same (Some x) = refl

-- an NMT trap is due in the laws exactly if it is in the heap
trap_same : (h : HeapState) (t : ℕ) (w : Reference)
    → effects.nmt_trap_due (world_of h) t (as_word w) ≡ nmt_trap_due h t w
trap_same h t None = refl
trap_same h t (Some w) = refl

-- bits that are those of a reference
are_bits : (o : Option ℕ) (w : Reference) → are_bits_of o w ≡ true → o ≡ Some (bits_of w)
are_bits None w e = absurd (cc)
are_bits (Some n) w e = ap Some (eqb-true n (bits_of w) e)

-- references with the same bits are equal
same_word : (v w : Reference) → IsWord v → IsWord w → bits_of v ≡ bits_of w → v ≡ w
same_word v w j k e = sym (stored_again v j) ∙ ap read_reference e ∙ stored_again w k

-- while an NMT trap is due, a mark runs
pub marks_run : (h : HeapState) (t : ℕ) (w : Reference) → nmt_trap_due h t w ≡ true → is_marking h.phase ≡ true
marks_run h t None e = absurd (cc)
marks_run h t (Some w) e = by_phase h.phase (has_crossed (slice_get h.threads t)) (not (same_bit w.1 h.nmt)) e
  where
    by_phase : (f : Phase) (c b : Bool) → cond (may_nmt_trap f c) b false ≡ true → is_marking f ≡ true
    by_phase Scanning c b e = refl
    by_phase MarkCrossing c b e = refl
    by_phase Idle c b e = absurd (cc)
    by_phase ProtectCrossing c b e = absurd (cc)
    by_phase Relocating c b e = absurd (cc)

module _ {h : HeapState} {p p0 : PlainHeap} (s : IsStore h.store) (d : IsHeap h) (k : Holds h p p0) (t : ℕ)
    (x : ThreadState) (at : slice_get h.threads t ≡ Some x) where
  module _ (b : Barrier) (first : barrier_of_thread h t ≡ Some b) where
    pub load : IsLoad h.config.registers b
    load = load_there h t x b k.words at (ap barrier_of (sym at) ∙ first)

    pub in_world : (world_of h).barrier t ≡ Some (as_barrier b)
    in_world = barrier_same (slice_get h.threads t) ∙ ap (option_map as_barrier) first

    pub opened : OpenLoad (world_of h) (births_of p) t (as_barrier b)
    opened = opened_of (world_of h) (births_of p) (births_of p0) k.invariant t (as_barrier b) in_world

    unmarked : trap_due h t b.now ≡ false → effects.nmt_trap_due (world_of h) t (as_word b.now) ≡ false
    unfolding trap_due
    unmarked e = trap_same h t b.now ∙ second_false (gc_trap_due h t b.now) (nmt_trap_due h t b.now) e

    -- the reference is marked
    now_marked : nmt_trap_due h t b.now ≡ true → StepHolds h p p0 (Thread t) steps.Trap
        (with_barrier (with_mark (copied_for h b.now) b.now) t (set_now_of (marked_word (copied_for h b.now) b.now) b)
        counters.Nmt)
        answers.Marked
    unfolding plain_step plain_answer with_mark
    now_marked due =
        let m = marks_first s k.laid k.invariant (marks_run h t b.now due) b.now _ opened.barrier.now.names in
        let g = copied_for h b.now in
        let there : slice_get g.threads t ≡ Some x = ap (λ ts. slice_get ts t) m.copied.threads ∙ at in
        let target : b.target < g.config.registers =
        subst (λ (z : Config). b.target < z.registers) (sym m.copied.carries.size.config) load.target in
        row_by k (becomes (and_then m.carries
        (barrier_carries (with_mark g b.now) t x there (set_now_of (marked_word g b.now) b) counters.Nmt
        (record { target = target; raw = load.raw; now = m.word })))
        (λ w. set_barrier t (record (as_barrier b) { now = edits.marked_word w (as_word b.now) })
        (mark_word (as_word b.now) w)) (ap (λ v. set_barrier t (record (as_barrier b) { now = v })
        (mark_word (as_word b.now) (world_of h))) m.same))
        (stays h p) (TrapMarked t (as_barrier b) in_world (marks_run h t b.now due)) tt

    -- an NMT trap, if it is due
    pub nmt_holds : RowHolds h p p0 (Thread t) steps.Trap (nmt_trap h t b)
    unfolding plain_step plain_answer
    nmt_holds = by_due (nmt_trap_due h t b.now) refl
      where
        by_due : (c : Bool) → nmt_trap_due h t b.now ≡ c → RowHolds h p p0 (Thread t) steps.Trap (cond c
            (Ok (
              with_barrier (with_mark (copied_for h b.now) b.now) t
                  (set_now_of (marked_word (copied_for h b.now) b.now) b) counters.Nmt,
              answers.Marked,
            ))
            (Ok (h, answers.Clear)))
        by_due true e = now_marked e
        by_due false e = read_by k tt

    still_load : IsLoad h.config.registers (set_healed b)
    still_load = record { target = load.target; raw = load.raw; now = load.now }

    -- the place has another reference by now
    other_word : StepHolds h p p0 (Thread t) steps.Heal (with_barrier h t (set_healed b) counters.Changed)
        answers.Changed
    unfolding plain_step plain_answer
    other_word = row_by k (barrier_carries h t x at (set_healed b) counters.Changed still_load) (stays h p)
        (HealChanged t (as_barrier b) in_world) tt

    -- a field is healed
    field_healed : (a i : ℕ) → b.place ≡ places.Field a i
        → trap_due h t b.now ≡ false → word_at h.store (field_address a i) ≡ Some (bits_of b.raw)
        → StepHolds h p p0 (Thread t) steps.Heal
        (with_barrier (with_place h (places.Field a i) b.now) t (set_healed b) counters.Healed) answers.Healed
    unfolding plain_step plain_answer
    field_healed a i place clear bits =
        let there = subst (λ z. IsPlace (world_of h) (births_of p) t (as_place z)) place opened.barrier.place in
        let q = there.object in
        let here : object_at h a ≡ Some q = current_there (world_of h) a q there.here in
        let spot : a + (1 + i) ≡ field_address a i = omega arith in
        let same : field q i ≡ as_word b.raw =
        field_is h s k.laid a q here i (bits_of b.raw) there.within (ap (word_at h.store) spot ∙ bits)
        ∙ ap as_read (reads_back b.raw load.raw) in
        row_by k (and_then (field_carries h s k.laid a q here i (field_address a i) b.now load.now there.within spot)
        (barrier_carries (with_place h (places.Field a i) b.now) t x at (set_healed b) counters.Healed still_load))
        (stays h p)
        (HealField t (as_barrier b) a i q in_world (ap as_place place) here same (unmarked clear)) tt

    -- a global is healed
    global_healed : (n : ℕ) → b.place ≡ places.Global n → trap_due h t b.now ≡ false
        → bits_of (global_of h n) ≡ bits_of b.raw → StepHolds h p p0 (Thread t) steps.Heal
        (with_barrier (with_place h (places.Global n) b.now) t (set_healed b) counters.Healed) answers.Healed
    unfolding plain_step plain_answer with_global global_of
    global_healed n place clear bits =
        let there = subst (λ z. IsPlace (world_of h) (births_of p) t (as_place z)) place opened.barrier.place in
        let same : (world_of h).global n ≡ as_word b.raw = global_same (slice_get h.globals n)
        ∙ ap as_word (same_word (global_of h n) b.raw (global_word h n k.words) load.raw bits) in
        row_by k (and_then (global_carries h n b.now load.now (ltb-true n (length h.globals) there))
        (barrier_carries (with_global h n b.now) t x at (set_healed b) counters.Healed still_load)) (stays h p)
        (HealGlobal t (as_barrier b) n in_world (ap as_place place) same (unmarked clear)) tt

    -- a place is healed if it still has what was loaded
    place_healed : trap_due h t b.now ≡ false
        → RowHolds h p p0 (Thread t) steps.Heal (Ok (heal_place h t b))
    unfolding heal_place
    place_healed clear = by_bits (are_bits_of (bits_at h b.place) b.raw) refl
      where
        by_place : (z : Place) → b.place ≡ z → bits_at h z ≡ Some (bits_of b.raw) → StepHolds h p p0
            (Thread t) steps.Heal (with_barrier (with_place h z b.now) t (set_healed b) counters.Healed) answers.Healed
        by_place (places.Field a i) q e = field_healed a i q clear e
        by_place (places.Global n) q e = global_healed n q clear (same_Some _ _ e)

        by_bits : (c : Bool) → are_bits_of (bits_at h b.place) b.raw ≡ c
            → RowHolds h p p0 (Thread t) steps.Heal (Ok (cond c
            (with_barrier (with_place h b.place b.now) t (set_healed b) counters.Healed, answers.Healed)
            (with_barrier h t (set_healed b) counters.Changed, answers.Changed)))
        by_bits false f = other_word
        by_bits true f = by_place b.place refl (are_bits (bits_at h b.place) b.raw f)

    -- a load's end
    loaded : trap_due h t b.now ≡ false
        → StepHolds h p p0 (Thread t) steps.Finish (with_loaded h t b.target b.now) answers.Done
    unfolding plain_step plain_answer
    loaded clear = by_pending (pending_in (slice_get p.threads t)) refl
      where
        by_pending : (o : Option Pending) → pending_in (slice_get p.threads t) ≡ o
            → StepHolds h p p0 (Thread t) steps.Finish (with_loaded h t b.target b.now) answers.Done
        by_pending None e = absurd (none-some opened.pending (sym (ap (option_map as_pair) e) ∙ opened.is))
        by_pending (Some l) e =
            let pair : as_pair l ≡ opened.pending = same_Some _ _ (sym (ap (option_map as_pair) e) ∙ opened.is) in
            let target : l.target ≡ b.target = ap (λ (z : ℕ × Option ℕ). z.0) pair ∙ sym opened.barrier.target in
            row_by k (loaded_carries h t x at b.target b.now k.laid load.now load.target)
            (agrees (finishing_follows k t x at _ l e (omega (arith, target, load.target)))
            (ap (λ o. finish_at t o (births_of p)) (sym (ap (option_map as_pair) e))))
            (Finish t (as_barrier b) in_world (unmarked clear)) tt

  -- a place is healed
  pub heal_holds : RowHolds h p p0 (Thread t) steps.Heal (heal_outcome h t)
  unfolding heal_outcome
  heal_holds = on_some (barrier_of_thread h t) _ _ _ (λ b first.
      on_test (trap_due h t b.now) _ _ _ (λ clear. place_healed b first clear))

  -- a load ends
  pub finish_holds : RowHolds h p p0 (Thread t) steps.Finish (finish_outcome h t)
  unfolding finish_outcome end_load
  finish_holds = on_some (barrier_of_thread h t) _ _ _ (λ b first. on_test (trap_due h t b.now) _ _ _ (λ clear.
      on_truth (may_finish b) _ _ _ (λ may. loaded b first clear)))
