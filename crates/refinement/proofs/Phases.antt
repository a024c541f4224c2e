-- The phase changes as in the collector's cycle.
use Rattle.std.proofs.Common.{◌≡◌, inl, inr, ℕ, zero, suc, ◌-◌, ◌&&◌, ◌||◌, Bool, true, false, cond, not}
use Rattle.std.proofs.Common.{nat_le, nat_lt}
use Rattle.std.proofs.Common.{is_some, is_none, Option, Some, None, ◌+◌, ◌*◌, refl, sym, ◌∙◌, ap, subst}
use Rattle.std.specs.List.{slice_get}
use Rattle.std.specs.Prelude.{Result, Ok, Err}
use Rattle.layout.specs.Objects.{size_of}
use Rattle.model.specs.declared.records.Barrier.{Barrier}
use Rattle.model.specs.declared.records.Counter.TheVariants as counters
use Rattle.model.specs.declared.records.Buffer.{Buffer}
use Rattle.model.specs.declared.records.Phase.{Phase}
use Rattle.model.specs.declared.records.Phase.TheVariants.{Idle, MarkCrossing, Scanning, ProtectCrossing, Relocating}
use Rattle.model.specs.declared.records.Place.{Place}
use Rattle.model.specs.declared.records.Place.TheVariants as places
use Rattle.model.specs.declared.records.Room.{Room}
use Rattle.model.specs.declared.records.Room.TheVariants.{NoFrames, NoPages, NoMemory}
use Rattle.model.specs.declared.records.Scan.{Scan}
use Rattle.model.specs.declared.steps.Actor.{Actor}
use Rattle.model.specs.declared.steps.Actor.TheVariants.{Thread, Worker}
use Rattle.model.specs.declared.steps.Answer.{Answer}
use Rattle.model.specs.declared.steps.Answer.TheVariants as answers
use Rattle.model.specs.declared.steps.Step.{Step}
use Rattle.model.specs.declared.steps.Step.TheVariants as steps
use Rattle.model.specs.Phases.{is_crossing, may_start_mark}
use Rattle.model.specs.Stores.{StoreState, take_buffer, word_at}
use Rattle.model.specs.Owning.{IsStore}
use Rattle.model.specs.Holding.{IsHeap}
use Rattle.model.specs.States.{HeapState, change_at}
use Rattle.model.specs.Threads.{set_crossed_of, is_parked_in}
use Rattle.model.specs.Registers.{register_of, usable, usable_or_null, with_register, same_outcome, is_null_outcome}
use Rattle.model.specs.Registers.{copy_register_outcome, clear_register_outcome}
use Rattle.model.specs.Data.{datum_at, datum_outcome, set_datum_outcome}
use Rattle.model.specs.References.{field_at, global_of, with_global, with_place, store_outcome, store_global_outcome}
use Rattle.model.specs.Buffers.{buffer_of_thread, with_buffer, lend_buffer, take_result, take_outcome}
use Rattle.model.specs.Buffers.{give_back_outcome}
use Rattle.model.specs.Births.{place_object, new_outcome}
use Rattle.model.specs.Marks.{with_mark, marked_word}
use Rattle.model.specs.Loads.{with_barrier, with_loaded, barrier_of_thread, load_outcome, load_global_outcome}
use Rattle.model.specs.Loads.{gc_trap_due, nmt_trap_due, trap_due, bits_at, are_bits_of}
use Rattle.model.specs.Loads.{set_healed}
use Rattle.model.specs.Loads.{heal_place, heal_outcome, may_finish, end_load, finish_outcome}
use Rattle.model.specs.Checkpoints.{with_parked, first_behind, phase_behind, with_crossed, with_marked_register}
use Rattle.model.specs.Checkpoints.{with_marked_word}
use Rattle.model.specs.Moves.{copied_for}
use Rattle.model.specs.Checkpoints.{with_marked_registers, marked_at_crossing, cross_thread, may_cross, cross_outcome}
use Rattle.model.specs.Checkpoints.{cross_for_outcome, park_outcome, unpark_outcome}
use Rattle.model.specs.Scans.{scan_of, with_scan, is_taken, may_scan, with_marked_place, with_scan_end, scan_next}
use Rattle.model.specs.Scans.{mark_place, is_todo_in, with_marked_global, mark_global, pick_outcome, scan_field_outcome}
use Rattle.model.specs.Scans.{scan_global_outcome}
use Rattle.model.specs.Cycles.{start_mark, start_mark_outcome, end_mark, end_mark_outcome}
use Rattle.model.specs.Traps.{trap_outcome, scrub_outcome}
use Rattle.model.specs.Outcome.{outcome, thread_gate, thread_row, worker_gate, worker_row}
use Rattle.model.specs.Bits.{bit_on}
use Rattle.model.specs.Plain.{PlainHeap}
use Rattle.laws.proofs.Basics.{scanning}
use Rattle.refinement.specs.Worlds.{world_of}
use Rattle.refinement.specs.PlainHeaps.{births_of}
use Rattle.refinement.specs.Standing.{Holds, CrossesInto, MovesPhase}
use Rattle.refinement.proofs.Accepted.{OnAccepted, accepted, of_accepted, on_accepted, on_bind, on_has, on_some}
use Rattle.refinement.proofs.Accepted.{on_test, on_either}
use Rattle.refinement.proofs.Accepted.{on_truth}
use Rattle.refinement.proofs.Checkpoints.{is_open}
use Rattle.refinement.proofs.EndMarks.{may_end}
use Rattle.refinement.proofs.StartMarks.{in_phase}
use Rattle.refinement.proofs.WholePages.{copy_page_stays}
use Rattle.refinement.proofs.MovingPhases.{Stays, Moves, protect_moves, copy_stays, gc_stays, scrub_word_stays}
use Rattle.refinement.proofs.MovingPhases.{release_stays, copied_for_stays}

module _ (h : HeapState) (t : ℕ) where
  take_stays : (n : ℕ) → Stays h (take_outcome h t n)
  unfolding take_outcome lend_buffer
  take_stays n = on_test (is_some (buffer_of_thread h t)) _ _ _ (λ e. by_result (take_buffer h.store n))
    where
      by_result : (r : Result (StoreState × Buffer) Room) → Stays h (take_result h t r)
      by_result (Ok x) = refl
      by_result (Err NoFrames) = tt
      by_result (Err NoPages) = tt
      by_result (Err NoMemory) = tt

  give_stays : Stays h (give_back_outcome h t)
  unfolding give_back_outcome with_buffer
  give_stays = on_truth (is_some (buffer_of_thread h t)) _ _ _ (λ e. refl)

  new_stays : (r number : ℕ) → Stays h (new_outcome h t r number)
  unfolding new_outcome place_object
  new_stays r number = on_some (buffer_of_thread h t) _ _ _ (λ b e.
      on_some (slice_get h.config.layouts number) _ _ _ (λ l f. on_test (nat_lt (b.end - b.next)
      (size_of l)) _ _ _ (λ u.
      on_test (nat_le h.config.births h.births) _ _ _ (λ v. refl))))

  load_stays : (r o i : ℕ) → Stays h (load_outcome h t r o i)
  unfolding load_outcome with_barrier
  load_stays r o i = on_bind (usable h t o) _ _ (λ a e. on_some (field_at h a i) _ _ _ (λ n f.
      on_some (word_at h.store n) _ _ _ (λ v g. refl)))

  load_global_stays : (r n : ℕ) → Stays h (load_global_outcome h t r n)
  unfolding load_global_outcome with_barrier
  load_global_stays r n = refl

  trap_stays : Stays h (trap_outcome h t)
  unfolding trap_outcome with_barrier with_mark
  trap_stays = on_some (barrier_of_thread h t) _ _ _ (λ b e. on_either (gc_trap_due h t b.now) _ _ _
      (λ f. gc_stays h t b b.now) (λ f. by_due b (nmt_trap_due h t b.now)))
    where
      by_due : (b : Barrier) (c : Bool) → Stays h (cond c
          (Ok (
            with_barrier (with_mark (copied_for h b.now) b.now) t
                (record b { now = marked_word (copied_for h b.now) b.now }) counters.Nmt,
            answers.Marked,
          ))
          (Ok (h, answers.Clear)))
      by_due b true = copied_for_stays h b.now
      by_due b false = refl

  heal_stays : Stays h (heal_outcome h t)
  unfolding heal_outcome heal_place with_barrier with_global
  heal_stays = on_some (barrier_of_thread h t) _ _ _ (λ b e. on_test (trap_due h t b.now) _ _ _ (λ f.
      by_bits b (are_bits_of (bits_at h b.place) b.raw) b.place))
    where
      at_place : (b : Barrier) (z : Place) → (with_place h z b.now).phase ≡ h.phase
      at_place b (places.Field a i) = refl
      at_place b (places.Global n) = refl

      by_bits : (b : Barrier) (c : Bool) (z : Place) → Stays h (Ok (cond c
          (with_barrier (with_place h z b.now) t (set_healed b) counters.Healed, answers.Healed)
          (with_barrier h t (set_healed b) counters.Changed, answers.Changed)))
      by_bits b true z = at_place b z
      by_bits b false z = refl

  finish_stays : Stays h (finish_outcome h t)
  unfolding finish_outcome end_load with_loaded
  finish_stays = on_some (barrier_of_thread h t) _ _ _ (λ b e. on_test (trap_due h t b.now) _ _ _ (λ f.
      on_truth (may_finish b) _ _ _ (λ m. refl)))

  store_stays : (o i r : ℕ) → Stays h (store_outcome h t o i r)
  unfolding store_outcome
  store_stays o i r = on_bind (usable h t o) _ _ (λ a e. on_some (field_at h a i) _ _ _ (λ n f.
      on_bind (usable_or_null h t r) _ _ (λ u g. refl)))

  store_global_stays : (n r : ℕ) → Stays h (store_global_outcome h t n r)
  unfolding store_global_outcome with_global
  store_global_stays n r = on_bind (usable_or_null h t r) _ _ (λ u g. refl)

  datum_stays : (o j : ℕ) → Stays h (datum_outcome h t o j)
  unfolding datum_outcome
  datum_stays o j = on_bind (usable h t o) _ _ (λ a e. on_some (datum_at h a j) _ _ _ (λ n f.
      on_some (word_at h.store n) _ _ _ (λ v g. refl)))

  set_datum_stays : (o j v : ℕ) → Stays h (set_datum_outcome h t o j v)
  unfolding set_datum_outcome
  set_datum_stays o j v = on_bind (usable h t o) _ _ (λ a e. on_some (datum_at h a j) _ _ _ (λ n f. refl))

  same_stays : (l r : ℕ) → Stays h (same_outcome h t l r)
  unfolding same_outcome
  same_stays l r = on_bind (usable_or_null h t l) _ _ (λ a e. on_bind (usable_or_null h t r) _ _ (λ b f. refl))

  scrub_stays : (r : ℕ) → Stays h (scrub_outcome h t r)
  unfolding scrub_outcome
  scrub_stays r = on_some (register_of h t r) _ _ _ (λ w e. scrub_word_stays h t r w)

  unpark_stays : Stays h (unpark_outcome h t)
  unfolding unpark_outcome with_parked
  unpark_stays = on_truth (is_parked_in (slice_get h.threads t)) _ _ _ (λ e. refl)

  -- marking registers leaves the phase
  marked_stays : (n : ℕ) → (with_marked_registers h t n).phase ≡ h.phase
  unfolding with_marked_register with_marked_word with_register with_mark
  marked_stays zero = refl
  marked_stays (suc n) = copied_for_stays (with_marked_registers h t n) _ ∙ marked_stays n

  -- a crossing
  crossed_into : is_crossing h.phase ≡ true
      → CrossesInto h.phase (first_behind (cross_thread h t).threads) (cross_thread h t).phase
  unfolding cross_thread with_crossed
  crossed_into e = by_found (first_behind (change_at m.threads t (set_crossed_of true)))
    where
      m : HeapState
      m = with_marked_registers h t (marked_at_crossing h)

      last : (f : Phase) → h.phase ≡ f → is_crossing f ≡ true → CrossesInto h.phase None (phase_behind f)
      last MarkCrossing g o = inl (g, refl)
      last ProtectCrossing g o = inr (g, refl)
      last Idle g o = absurd (cc)
      last Scanning g o = absurd (cc)
      last Relocating g o = absurd (cc)

      by_found : (o : Option ℕ) → CrossesInto h.phase o (cond (is_none o) (phase_behind m.phase) m.phase)
      by_found (Some u) = marked_stays (marked_at_crossing h)
      by_found None = subst (λ f. CrossesInto h.phase None (phase_behind f)) (sym (marked_stays (marked_at_crossing h)))
          (last h.phase refl e)

  cross_moves : OnAccepted (λ (z : HeapState × Answer). CrossesInto h.phase (first_behind z.0.threads) z.0.phase)
      (cross_outcome h t)
  unfolding cross_outcome
  cross_moves = on_has (may_cross h t) _ _ _ (is_open h t) (λ u e. crossed_into e)

thread_moves : (h : HeapState) (t : ℕ) (step : Step) → Moves h step (thread_row h t step)
unfolding park_outcome with_parked is_null_outcome copy_register_outcome clear_register_outcome with_register
thread_moves h t (steps.Take n) = take_stays h t n
thread_moves h t steps.GiveBack = give_stays h t
thread_moves h t (steps.New r number) = new_stays h t r number
thread_moves h t (steps.Load r o i) = load_stays h t r o i
thread_moves h t (steps.LoadGlobal r n) = load_global_stays h t r n
thread_moves h t steps.Trap = trap_stays h t
thread_moves h t steps.Heal = heal_stays h t
thread_moves h t steps.Finish = finish_stays h t
thread_moves h t (steps.Store o i r) = store_stays h t o i r
thread_moves h t (steps.StoreGlobal n r) = store_global_stays h t n r
thread_moves h t (steps.Datum o j) = datum_stays h t o j
thread_moves h t (steps.SetDatum o j v) = set_datum_stays h t o j v
thread_moves h t (steps.Same l r) = same_stays h t l r
thread_moves h t (steps.IsNull r) = refl
thread_moves h t (steps.CopyReg r q) = refl
thread_moves h t (steps.ClearReg r) = refl
thread_moves h t steps.Cross = cross_moves h t
thread_moves h t (steps.Scrub r) = scrub_stays h t r
thread_moves h t steps.Park = refl
thread_moves h t steps.Unpark = unpark_stays h t
thread_moves h t _ = tt

module _ {h : HeapState} {p p0 : PlainHeap} (k : Holds h p p0) where
  start_moves : Moves h steps.StartMark (start_mark_outcome h)
  unfolding start_mark_outcome start_mark
  start_moves = on_truth (may_start_mark h.phase) _ _ _ (λ e. (in_phase h.phase e, refl))

  end_moves : Moves h steps.EndMark (end_mark_outcome h)
  unfolding end_mark
  end_moves = on_accepted (end_mark_outcome h) _ _ (may_end h) (λ z may. (
    scanning (world_of h) (births_of p) (births_of p0) k.invariant may.0.scans,
    ap (λ (g : HeapState). g.phase) may.1,
  ))

  pick_moves : (w page offset : ℕ) → Stays h (pick_outcome h w page offset)
  unfolding pick_outcome with_scan
  pick_moves w page offset = on_bind (may_scan h) _ _ (λ u e.
      on_test (not (nat_lt offset h.store.words && bit_on h.todo page offset)) _ _ _ (λ f.
      on_test (is_some (scan_of h w) || is_taken h (page * h.store.words + offset)) _ _ _ (λ g. refl)))

  scan_moves : (w : ℕ) → Stays h (scan_field_outcome h w)
  unfolding scan_field_outcome with_scan_end mark_place with_marked_place with_mark with_scan
  scan_moves w = on_bind (may_scan h) _ _ (λ u e. on_some (scan_of h w) _ _ _ (λ c f.
      by_place c (field_at h c.object c.next)))
    where
      by_place : (c : Scan) (o : Option ℕ) → Stays h (scan_next h w c o)
      by_place c None = refl
      by_place c (Some n) = copied_for_stays h _

  global_moves : (g : ℕ) → Stays h (scan_global_outcome h g)
  unfolding scan_global_outcome mark_global with_marked_global with_mark
  global_moves g = on_bind (may_scan h) _ _ (λ u e. on_truth (is_todo_in (slice_get h.globals g)) _ _ _ (λ f.
      copied_for_stays h (global_of h g)))

  cross_for_moves : (t : ℕ) → Moves h (steps.CrossFor t) (cross_for_outcome h t)
  unfolding cross_for_outcome
  cross_for_moves t = on_test (not (is_parked_in (slice_get h.threads t))) _ _ _ (λ e. cross_moves h t)

  worker_moves : (w : ℕ) (step : Step) → Moves h step (worker_row h w step)
  worker_moves w steps.StartMark = start_moves
  worker_moves w (steps.Pick page offset) = pick_moves w page offset
  worker_moves w steps.ScanField = scan_moves w
  worker_moves w (steps.ScanGlobal g) = global_moves g
  worker_moves w steps.EndMark = end_moves
  worker_moves w (steps.Protect pages) = protect_moves h pages
  worker_moves w (steps.Copy page e) = copy_stays h page e
  worker_moves w (steps.CopyPage page) = copy_page_stays h page
  worker_moves w (steps.Release page) = release_stays h page
  worker_moves w (steps.CrossFor t) = cross_for_moves t
  worker_moves w _ = tt

  outcome_moves : (actor : Actor) (step : Step) → Moves h step (outcome h actor step)
  unfolding outcome
  outcome_moves (Thread t) step = on_bind (thread_gate h t step) _ _ (λ u e. thread_moves h t step)
  outcome_moves (Worker w) step = on_bind (worker_gate h w step) _ _ (λ u e. worker_moves w step)

pub phases_move : (h : HeapState) (p p0 : PlainHeap) (actor : Actor) (step : Step) (g : HeapState) (answer : Answer)
    → IsStore h.store → IsHeap h → Holds h p p0 → outcome h actor step ≡ accepted (g, answer) → MovesPhase h step g
phases_move h p p0 actor step g answer s d k e = of_accepted (λ (z : HeapState × Answer). MovesPhase h step z.0)
    (outcome h actor step) (g, answer) (outcome_moves k actor step) e
