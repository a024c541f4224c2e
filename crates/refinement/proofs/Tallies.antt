-- Accepted steps and barrier counters: each opening or change of a barrier increments one, and no other step any.
use Rattle.std.proofs.Common.{◌≡◌, ℕ, zero, suc, ◌-◌, ◌&&◌, ◌||◌, ◌*◌, ◌+◌, Bool, true, false, cond, not}
use Rattle.std.proofs.Common.{nat_le, nat_lt, is_some, Option, Some, None, length, refl, ap, ◌∙◌, List}
use Rattle.std.specs.List.{slice_get, list_any}
use Rattle.std.specs.Option.{option_map}
use Rattle.std.specs.Prelude.{Result, Ok, Err}
use Rattle.layout.specs.Objects.{size_of}
use Rattle.model.specs.declared.records.Barrier.{Barrier}
use Rattle.model.specs.declared.records.Buffer.{Buffer}
use Rattle.model.specs.declared.records.Counter.{Counter}
use Rattle.model.specs.declared.records.Counter.TheVariants as counters
use Rattle.model.specs.declared.records.Forwarding.{Forwarding}
use Rattle.model.specs.declared.records.Place.{Place}
use Rattle.model.specs.declared.records.Place.TheVariants as places
use Rattle.model.specs.declared.records.Room.{Room}
use Rattle.model.specs.declared.records.Room.TheVariants.{NoFrames, NoPages, NoMemory}
use Rattle.model.specs.declared.records.Scan.{Scan}
use Rattle.model.specs.declared.records.Tally.{Tally}
use Rattle.model.specs.declared.steps.Actor.{Actor}
use Rattle.model.specs.declared.steps.Actor.TheVariants.{Thread, Worker}
use Rattle.model.specs.declared.steps.Answer.{Answer}
use Rattle.model.specs.declared.steps.Answer.TheVariants as answers
use Rattle.model.specs.declared.steps.Refusal.TheVariants as refusals
use Rattle.model.specs.declared.steps.Step.{Step}
use Rattle.model.specs.declared.steps.Step.TheVariants as steps
use Rattle.model.specs.Phases.{is_idle, is_protect_crossing, may_start_mark}
use Rattle.model.specs.Stores.{StoreState, take_buffer, word_at, state_at, is_from}
use Rattle.model.specs.Refusing.{Outcome}
use Rattle.model.specs.States.{HeapState, ThreadState, Reference, change_at}
use Rattle.model.specs.Tallies.{counter_of}
use Rattle.model.specs.Threads.{set_crossed_of, set_register_of, set_buffer_of, set_barrier_of, set_loaded_of}
use Rattle.model.specs.Threads.{set_parked_of, is_parked_in, tally_in}
use Rattle.model.specs.Registers.{register_of, usable, usable_or_null, let_through, with_register, same_outcome}
use Rattle.model.specs.Registers.{is_null_outcome, copy_register_outcome, clear_register_outcome}
use Rattle.model.specs.Data.{datum_at, datum_outcome, set_datum_outcome}
use Rattle.model.specs.References.{field_at, global_of, with_global, with_place, store_outcome, store_global_outcome}
use Rattle.model.specs.Buffers.{buffer_of_thread, with_buffer, lend_buffer, take_result, take_outcome}
use Rattle.model.specs.Buffers.{give_back_outcome}
use Rattle.model.specs.Births.{place_object, hand_object, used_buffer, new_outcome}
use Rattle.model.specs.Bits.{bit_on, of_page}
use Rattle.model.specs.Marks.{with_mark, marked_word, entry_at}
use Rattle.model.specs.Loads.{with_barrier, with_loaded, barrier_of_thread, load_outcome, load_global_outcome}
use Rattle.model.specs.Loads.{tally_of_thread, gc_trap_due, nmt_trap_due, trap_due, bits_at, are_bits_of, set_healed}
use Rattle.model.specs.Loads.{set_now_of}
use Rattle.model.specs.Loads.{is_refused, heal_place, heal_outcome, may_finish, end_load, finish_outcome}
use Rattle.model.specs.Checkpoints.{with_parked, with_crossed, with_marked_word, with_marked_register}
use Rattle.model.specs.Checkpoints.{with_marked_registers}
use Rattle.model.specs.Checkpoints.{marked_at_crossing, cross_thread, may_cross, cross_outcome, cross_for_outcome}
use Rattle.model.specs.Checkpoints.{park_outcome, unpark_outcome}
use Rattle.model.specs.Scans.{scan_of, with_scan, is_taken, may_scan, reference_in, with_marked_place, with_scan_end}
use Rattle.model.specs.Scans.{scan_next}
use Rattle.model.specs.Scans.{mark_place, is_todo_in, with_marked_global, mark_global, pick_outcome, scan_field_outcome}
use Rattle.model.specs.Scans.{scan_global_outcome}
use Rattle.model.specs.Cycles.{start_mark, start_mark_outcome, end_mark, end_mark_outcome}
use Rattle.model.specs.Cycles.{has_todo, none_pending, first_pending, is_uncopied}
use Rattle.model.specs.Plans.{plan_of, target_count}
use Rattle.model.specs.Protections.{take_target, with_target, with_targets, behind_target, with_protected, protect}
use Rattle.model.specs.Protections.{all_ripe, room_for, protect_outcome}
use Rattle.model.specs.Moves.{with_copy, copied_by, copied_first, copied_for, moved_word}
use Rattle.model.specs.Emptying.{crossed_if_protecting, entry_on, copy_outcome, heap_after, copies_from, copy_page}
use Rattle.model.specs.Emptying.{copy_page_outcome, release_outcome}
use Rattle.model.specs.Traps.{gc_trap, trap_outcome, scrub_outcome}
use Rattle.model.specs.Outcome.{outcome, thread_gate, thread_row, worker_gate, worker_row}
use Rattle.laws.proofs.Basics.{put_same, put_other}
use Rattle.refinement.specs.Tallies.{counted_if, TalliesStay, CountsOne, CountsStep}
use Rattle.refinement.proofs.Accepted.{OnAccepted, accepted, of_accepted, on_bind, on_some}
use Rattle.refinement.proofs.Accepted.{on_test, on_truth, on_either, on_unless}
use Rattle.refinement.proofs.Changes.{get_changed, kept_of}
use Rattle.refinement.proofs.StartMarks.{kept_of_all}

-- an accepted outcome leaves all counters
abbrev Stays : HeapState → Outcome → Type 0
Stays h o = OnAccepted (λ (z : HeapState × Answer). TalliesStay h z.0) o

-- an accepted outcome of a thread's step counts so
abbrev Counts : HeapState → ℕ → Step → Outcome → Type 0
Counts h t step o = OnAccepted (λ (z : HeapState × Answer). CountsOne h t (counter_of step z.1) z.0) o

-- the counters of threads after one is changed, but not its counters
stay : (xs : List ThreadState) (t : ℕ) (f : ThreadState → ThreadState) → ((x : ThreadState) → (f x).tally ≡ x.tally)
    → (u : ℕ) → tally_in (slice_get (change_at xs t f) u) ≡ tally_in (slice_get xs u)
stay xs t f same u = kept_of tally_in xs t f (λ x. ap Some (same x)) u

-- if all counters stay, none counts
nothing : (h g : HeapState) (t : ℕ) → TalliesStay h g → CountsOne h t None g
nothing h g t s = record { own = s t ∙ same (tally_of_thread h t); others = λ u d. s u }
  where
    same : (o : Option Tally) → o ≡ option_map (counted_if None) o
    same None = refl
    same (Some y) = refl

-- a barrier is opened or changed
one : (h : HeapState) (t : ℕ) (b : Barrier) (c : Counter) → CountsOne h t (Some c) (with_barrier h t b c)
unfolding with_barrier
one h t b c = record {
  own = ap tally_in (get_changed h.threads t (set_barrier_of b c) t ∙ put_same (slice_get h.threads) t after)
      ∙ same (slice_get h.threads t);
  others = λ u d. ap tally_in
      (get_changed h.threads t (set_barrier_of b c) u ∙ put_other (slice_get h.threads) t after u d);
}
  where
    after : Option ThreadState
    after = option_map (set_barrier_of b c) (slice_get h.threads t)

    same : (o : Option ThreadState)
        → tally_in (option_map (set_barrier_of b c) o) ≡ option_map (counted_if (Some c)) (tally_in o)
    same None = refl
    same (Some x) = refl

-- the same for a heap with the threads of h
one_behind : (h g : HeapState) (t : ℕ) (b : Barrier) (c : Counter) → g.threads ≡ h.threads
    → CountsOne h t (Some c) (with_barrier g t b c)
unfolding with_barrier
one_behind h g t b c e =
    let k : CountsOne g t (Some c) (with_barrier g t b c) = one g t b c in
    record {
      own = k.own ∙ ap (λ ts. option_map (counted_if (Some c)) (tally_in (slice_get ts t))) e;
      others = λ u d. k.others u d ∙ ap (λ ts. tally_in (slice_get ts u)) e;
    }

-- copying an object leaves the threads
first_threads : (h : HeapState) (a : ℕ) → (copied_first h a).threads ≡ h.threads
unfolding copied_first with_copy
first_threads h a = by_entry (entry_at h a)
  where
    by_entry : (o : Option Forwarding) → (copied_by h a o).threads ≡ h.threads
    by_entry None = refl
    by_entry (Some f) = by_copied f.copied f.to
      where
        by_copied : (b : Bool) (n : ℕ) → (cond b h (with_copy h a n)).threads ≡ h.threads
        by_copied true n = refl
        by_copied false n = refl

for_threads : (h : HeapState) (v : Reference) → (copied_for h v).threads ≡ h.threads
unfolding copied_for
for_threads h None = refl
for_threads h (Some w) = first_threads h w.0

module _ (h : HeapState) (t : ℕ) where
  -- a register gets a reference
  register_stays : (g : HeapState) (r : ℕ) (w : Reference) → g.threads ≡ h.threads
      → TalliesStay h (with_register g t r w)
  unfolding with_register
  register_stays g r w e u =
      stay g.threads t (set_register_of r w) (λ x. refl) u ∙ ap (λ ts. tally_in (slice_get ts u)) e

  take_stays : (n : ℕ) → Stays h (take_outcome h t n)
  unfolding take_outcome lend_buffer
  take_stays n = on_test (is_some (buffer_of_thread h t)) _ _ _ (λ e. by_result (take_buffer h.store n))
    where
      by_result : (r : Result (StoreState × Buffer) Room) → Stays h (take_result h t r)
      by_result (Ok x) = stay h.threads t (set_buffer_of (Some x.1)) (λ x. refl)
      by_result (Err NoFrames) = tt
      by_result (Err NoPages) = tt
      by_result (Err NoMemory) = tt

  give_stays : Stays h (give_back_outcome h t)
  unfolding give_back_outcome with_buffer
  give_stays = on_truth (is_some (buffer_of_thread h t)) _ _ _
      (λ e. stay h.threads t (set_buffer_of None) (λ x. refl))

  new_stays : (r number : ℕ) → Stays h (new_outcome h t r number)
  unfolding new_outcome place_object
  new_stays r number = on_some (buffer_of_thread h t) _ _ _ (λ b e.
      on_some (slice_get h.config.layouts number) _ _ _ (λ l f. on_test (nat_lt (b.end - b.next)
      (size_of l)) _ _ _ (λ u.
      on_test (nat_le h.config.births h.births) _ _ _ (λ v. stay h.threads t
      (hand_object r (Some (b.page * h.store.words + b.next, h.nmt)) (used_buffer b (size_of l))) (λ x. refl)))))

  load_counts : (r o i : ℕ) → Counts h t (steps.Load r o i) (load_outcome h t r o i)
  unfolding load_outcome
  load_counts r o i = on_bind (usable h t o) _ _ (λ a e. on_some (field_at h a i) _ _ _ (λ n f.
      on_some (word_at h.store n) _ _ _ (λ v g. one h t _ counters.Loads)))

  load_global_counts : (r n : ℕ) → Counts h t (steps.LoadGlobal r n) (load_global_outcome h t r n)
  unfolding load_global_outcome
  load_global_counts r n = one h t _ counters.Loads

  gc_counts : (b : Barrier) (v : Reference) → Counts h t steps.Trap (gc_trap h t b v)
  gc_counts b None = nothing h h t (λ u. refl)
  gc_counts b (Some w) = on_test (is_protect_crossing h.phase) _ _ _
      (λ e. one_behind h (copied_first h w.0) t _ counters.Gc (first_threads h w.0))

  trap_counts : Counts h t steps.Trap (trap_outcome h t)
  unfolding trap_outcome with_mark
  trap_counts = on_some (barrier_of_thread h t) _ _ _ (λ b e. on_either (gc_trap_due h t b.now) _ _ _
      (λ f. gc_counts b b.now) (λ f. by_due b (nmt_trap_due h t b.now)))
    where
      by_due : (b : Barrier) (c : Bool) → Counts h t steps.Trap (cond c
          (Ok (
            with_barrier (with_mark (copied_for h b.now) b.now) t
                (set_now_of (marked_word (copied_for h b.now) b.now) b) counters.Nmt,
            answers.Marked,
          ))
          (Ok (h, answers.Clear)))
      by_due b true = one_behind h (with_mark (copied_for h b.now) b.now) t _ counters.Nmt (for_threads h b.now)
      by_due b false = nothing h h t (λ u. refl)

  heal_counts : Counts h t steps.Heal (heal_outcome h t)
  unfolding heal_outcome heal_place with_global
  heal_counts = on_some (barrier_of_thread h t) _ _ _ (λ b e. on_test (trap_due h t b.now) _ _ _ (λ f.
      by_bits b (are_bits_of (bits_at h b.place) b.raw) b.place))
    where
      at_place : (b : Barrier) (z : Place) → (with_place h z b.now).threads ≡ h.threads
      at_place b (places.Field a i) = refl
      at_place b (places.Global n) = refl

      by_bits : (b : Barrier) (c : Bool) (z : Place) → Counts h t steps.Heal (Ok (cond c
          (with_barrier (with_place h z b.now) t (set_healed b) counters.Healed, answers.Healed)
          (with_barrier h t (set_healed b) counters.Changed, answers.Changed)))
      by_bits b true z = one_behind h (with_place h z b.now) t _ counters.Healed (at_place b z)
      by_bits b false z = one h t _ counters.Changed

  finish_stays : Stays h (finish_outcome h t)
  unfolding finish_outcome end_load with_loaded
  finish_stays = on_some (barrier_of_thread h t) _ _ _ (λ b e. on_test (trap_due h t b.now) _ _ _ (λ f.
      on_truth (may_finish b) _ _ _ (λ m. stay h.threads t (set_loaded_of b.target b.now) (λ x. refl))))

  store_stays : (o i r : ℕ) → Stays h (store_outcome h t o i r)
  unfolding store_outcome
  store_stays o i r = on_bind (usable h t o) _ _ (λ a e. on_some (field_at h a i) _ _ _ (λ n f.
      on_bind (usable_or_null h t r) _ _ (λ u g v. refl)))

  store_global_stays : (n r : ℕ) → Stays h (store_global_outcome h t n r)
  unfolding store_global_outcome with_global
  store_global_stays n r = on_bind (usable_or_null h t r) _ _ (λ u g v. refl)

  datum_stays : (o j : ℕ) → Stays h (datum_outcome h t o j)
  unfolding datum_outcome
  datum_stays o j = on_bind (usable h t o) _ _ (λ a e. on_some (datum_at h a j) _ _ _ (λ n f.
      on_some (word_at h.store n) _ _ _ (λ v g u. refl)))

  set_datum_stays : (o j v : ℕ) → Stays h (set_datum_outcome h t o j v)
  unfolding set_datum_outcome
  set_datum_stays o j v = on_bind (usable h t o) _ _ (λ a e. on_some (datum_at h a j) _ _ _ (λ n f u. refl))

  same_stays : (l r : ℕ) → Stays h (same_outcome h t l r)
  unfolding same_outcome
  same_stays l r = on_bind (usable_or_null h t l) _ _ (λ a e. on_bind (usable_or_null h t r) _ _ (λ b f u. refl))

  is_null_stays : (r : ℕ) → Stays h (is_null_outcome h t r)
  unfolding is_null_outcome
  is_null_stays r u = refl

  copy_register_stays : (r q : ℕ) → Stays h (copy_register_outcome h t r q)
  unfolding copy_register_outcome
  copy_register_stays r q = register_stays h r (register_of h t q) refl

  clear_stays : (r : ℕ) → Stays h (clear_register_outcome h t r)
  unfolding clear_register_outcome
  clear_stays r = register_stays h r None refl

  scrub_stays : (r : ℕ) → Stays h (scrub_outcome h t r)
  unfolding scrub_outcome
  scrub_stays r = on_some (register_of h t r) _ _ _ (λ w e. by_refused w (not (is_refused (let_through h t w.0))))
    where
      by_refused : (w : ℕ × Bool) (b : Bool) → Stays h (cond b (Ok (h, answers.Clean))
          (cond (is_protect_crossing h.phase) (Err refusals.Stall)
          (Ok (with_register (copied_first h w.0) t r (Some (moved_word h w)), answers.Moved))))
      by_refused w true = λ u. refl
      by_refused w false = on_test (is_protect_crossing h.phase) _ _ _
          (λ e. register_stays (copied_first h w.0) r (Some (moved_word h w)) (first_threads h w.0))

  parked_stays : (b : Bool) → TalliesStay h (with_parked h t b)
  unfolding with_parked
  parked_stays b = stay h.threads t (set_parked_of b) (λ x. refl)

  park_stays : Stays h (park_outcome h t)
  unfolding park_outcome
  park_stays = parked_stays true

  unpark_stays : Stays h (unpark_outcome h t)
  unfolding unpark_outcome
  unpark_stays = on_truth (is_parked_in (slice_get h.threads t)) _ _ _ (λ e. parked_stays false)

  marked_stays : (n : ℕ) → TalliesStay h (with_marked_registers h t n)
  unfolding with_marked_register with_marked_word with_register with_mark
  marked_stays zero u = refl
  marked_stays (suc n) u =
      let g : HeapState = with_marked_registers h t n in
      let v : Reference = register_of g t n in
      let c : HeapState = copied_for g v in
      stay c.threads t (set_register_of n (marked_word c v)) (λ x. refl) u
      ∙ ap (λ ts. tally_in (slice_get ts u)) (for_threads g v) ∙ marked_stays n u

  cross_stays : Stays h (cross_outcome h t)
  unfolding cross_outcome cross_thread with_crossed
  cross_stays = on_bind (may_cross h t) _ _ (λ u e v.
      stay (with_marked_registers h t (marked_at_crossing h)).threads t (set_crossed_of true) (λ x. refl) v
      ∙ marked_stays (marked_at_crossing h) v)

  -- an outcome that leaves all counters, of a step that counts nothing with any answer
  quiet : (step : Step) (o : Outcome) → ((a : Answer) → counter_of step a ≡ None) → Stays h o → Counts h t step o
  quiet step (Ok x) none s = by_counter (counter_of step x.1) (none x.1)
    where
      by_counter : (c : Option Counter) → c ≡ None → CountsOne h t c x.0
      by_counter None e = nothing h x.0 t s
      by_counter (Some c) e = absurd (cc)
  quiet step (Err n) none s = tt

thread_counts : (h : HeapState) (t : ℕ) (step : Step) → Counts h t step (thread_row h t step)
thread_counts h t (steps.Take n) = quiet h t (steps.Take n) _ (λ a. refl) (take_stays h t n)
thread_counts h t steps.GiveBack = quiet h t steps.GiveBack _ (λ a. refl) (give_stays h t)
thread_counts h t (steps.New r number) = quiet h t (steps.New r number) _ (λ a. refl) (new_stays h t r number)
thread_counts h t (steps.Load r o i) = load_counts h t r o i
thread_counts h t (steps.LoadGlobal r n) = load_global_counts h t r n
thread_counts h t steps.Trap = trap_counts h t
thread_counts h t steps.Heal = heal_counts h t
thread_counts h t steps.Finish = quiet h t steps.Finish _ (λ a. refl) (finish_stays h t)
thread_counts h t (steps.Store o i r) = quiet h t (steps.Store o i r) _ (λ a. refl) (store_stays h t o i r)
thread_counts h t (steps.StoreGlobal n r) = quiet h t (steps.StoreGlobal n r) _ (λ a. refl) (store_global_stays h t n r)
thread_counts h t (steps.Datum o j) = quiet h t (steps.Datum o j) _ (λ a. refl) (datum_stays h t o j)
thread_counts h t (steps.SetDatum o j v) = quiet h t (steps.SetDatum o j v) _ (λ a. refl) (set_datum_stays h t o j v)
thread_counts h t (steps.Same l r) = quiet h t (steps.Same l r) _ (λ a. refl) (same_stays h t l r)
thread_counts h t (steps.IsNull r) = quiet h t (steps.IsNull r) _ (λ a. refl) (is_null_stays h t r)
thread_counts h t (steps.CopyReg r q) = quiet h t (steps.CopyReg r q) _ (λ a. refl) (copy_register_stays h t r q)
thread_counts h t (steps.ClearReg r) = quiet h t (steps.ClearReg r) _ (λ a. refl) (clear_stays h t r)
thread_counts h t steps.Cross = quiet h t steps.Cross _ (λ a. refl) (cross_stays h t)
thread_counts h t (steps.Scrub r) = quiet h t (steps.Scrub r) _ (λ a. refl) (scrub_stays h t r)
thread_counts h t steps.Park = quiet h t steps.Park _ (λ a. refl) (park_stays h t)
thread_counts h t steps.Unpark = quiet h t steps.Unpark _ (λ a. refl) (unpark_stays h t)
thread_counts h t _ = tt

-- opening targets leaves the threads
targets_threads : (k : ℕ) (h : HeapState) → (with_targets k h).0.threads ≡ h.threads
unfolding with_target
targets_threads zero h = refl
targets_threads (suc k) h = by_target (take_target h.store) (λ x. targets_threads k (with_target h x))
  where
    by_target : (r : Result (StoreState × Buffer) Room)
        → ((x : StoreState × Buffer) → (with_targets k (with_target h x)).0.threads ≡ h.threads)
        → (behind_target (with_targets k) h r).0.threads ≡ h.threads
    by_target (Ok x) others = others x
    by_target (Err e) others = refl

-- an object is copied
copy_stays : (h : HeapState) (page e : ℕ) → Stays h (copy_outcome h page e)
unfolding copy_outcome with_copy
copy_stays h page e = on_unless (is_idle h.phase) _ _ _ (λ u. on_bind (crossed_if_protecting h) _ _ (λ v f.
    on_some (entry_on h page e) _ _ _ (λ w g. on_unless w.copied _ _ _ (λ x y. refl))))

after_stays : (h : HeapState) (page e : ℕ) → TalliesStay h (heap_after h (copy_outcome h page e))
after_stays h page e = by_outcome (copy_outcome h page e) (copy_stays h page e)
  where
    by_outcome : (o : Outcome) → Stays h o → TalliesStay h (heap_after h o)
    by_outcome (Ok z) s = s
    by_outcome (Err n) s = λ u. refl

-- so do copies of many
copies_stay : (h : HeapState) (page e k : ℕ) → TalliesStay h (copies_from h page e k)
copies_stay h page e zero u = refl
copies_stay h page e (suc k) u =
    copies_stay (heap_after h (copy_outcome h page e)) page (e + 1) k u ∙ after_stays h page e u

module _ (h : HeapState) where
  start_stays : Stays h (start_mark_outcome h)
  unfolding start_mark_outcome start_mark
  start_stays = on_truth (may_start_mark h.phase) _ _ _ (λ e.
      kept_of_all tally_in h.threads (set_crossed_of false) (λ x. refl))

  end_stays : Stays h (end_mark_outcome h)
  unfolding end_mark_outcome end_mark
  end_stays = on_bind (may_scan h) _ _ (λ u e. on_unless (has_todo h) _ _ _ (λ f.
      on_bind (none_pending (first_pending h.threads)) _ _ (λ v g w. refl)))

  pick_stays : (w page offset : ℕ) → Stays h (pick_outcome h w page offset)
  unfolding pick_outcome with_scan
  pick_stays w page offset = on_bind (may_scan h) _ _ (λ u e.
      on_test (not (nat_lt offset h.store.words && bit_on h.todo page offset)) _ _ _ (λ f.
      on_test (is_some (scan_of h w) || is_taken h (page * h.store.words + offset)) _ _ _ (λ g v. refl)))

  scan_stays : (w : ℕ) → Stays h (scan_field_outcome h w)
  unfolding scan_field_outcome with_scan_end mark_place with_marked_place with_mark with_scan
  scan_stays w = on_bind (may_scan h) _ _ (λ u e. on_some (scan_of h w) _ _ _ (λ c f.
      by_place c (field_at h c.object c.next)))
    where
      by_place : (c : Scan) (o : Option ℕ) → Stays h (scan_next h w c o)
      by_place c None = λ u. refl
      by_place c (Some n) = λ u. ap (λ ts. tally_in (slice_get ts u))
          (for_threads h (reference_in (word_at h.store n)))

  global_stays : (g : ℕ) → Stays h (scan_global_outcome h g)
  unfolding scan_global_outcome mark_global with_marked_global with_mark
  global_stays g = on_bind (may_scan h) _ _ (λ u e.
      on_truth (is_todo_in (slice_get h.globals g)) _ _ _ (λ f v.
      ap (λ ts. tally_in (slice_get ts v)) (for_threads h (global_of h g))))

  protect_stays : (pages : List ℕ) → Stays h (protect_outcome h pages)
  unfolding protect_outcome protect with_protected
  protect_stays pages = on_unless (not (is_idle h.phase)) _ _ _ (λ idle. on_bind (all_ripe h pages) _ _ (λ v e.
      on_bind (room_for h.store (target_count (plan_of h pages))) _ _ (λ w f u.
      kept_of_all tally_in (with_targets (target_count (plan_of h pages)) h).0.threads (set_crossed_of false)
      (λ x. refl) u
      ∙ ap (λ ts. tally_in (slice_get ts u)) (targets_threads (target_count (plan_of h pages)) h))))

  copy_page_stays : (page : ℕ) → Stays h (copy_page_outcome h page)
  unfolding copy_page_outcome copy_page
  copy_page_stays page = on_unless (is_idle h.phase) _ _ _ (λ u. on_bind (crossed_if_protecting h) _ _ (λ v f.
      on_unless (not (is_from (state_at h.store page))) _ _ _ (λ x.
      copies_stay h page 0 (length (of_page h.sides page)))))

  release_stays : (n : ℕ) → Stays h (release_outcome h n)
  unfolding release_outcome
  release_stays n = on_unless (is_idle h.phase) _ _ _ (λ e. on_bind (crossed_if_protecting h) _ _ (λ u f.
      on_unless (not (is_from (state_at h.store n))) _ _ _ (λ g.
      on_unless (list_any is_uncopied (of_page h.sides n)) _ _ _ (λ k v. refl))))

  cross_for_stays : (t : ℕ) → Stays h (cross_for_outcome h t)
  unfolding cross_for_outcome
  cross_for_stays t = on_test (not (is_parked_in (slice_get h.threads t))) _ _ _ (λ e. cross_stays h t)

  worker_stays : (w : ℕ) (step : Step) → Stays h (worker_row h w step)
  worker_stays w steps.StartMark = start_stays
  worker_stays w (steps.Pick page offset) = pick_stays w page offset
  worker_stays w steps.ScanField = scan_stays w
  worker_stays w (steps.ScanGlobal g) = global_stays g
  worker_stays w steps.EndMark = end_stays
  worker_stays w (steps.Protect pages) = protect_stays pages
  worker_stays w (steps.Copy page e) = copy_stays h page e
  worker_stays w (steps.CopyPage page) = copy_page_stays page
  worker_stays w (steps.Release page) = release_stays page
  worker_stays w (steps.CrossFor t) = cross_for_stays t
  worker_stays w _ = tt

  outcome_counts : (actor : Actor) (step : Step)
      → OnAccepted (λ (z : HeapState × Answer). CountsStep h actor step z.1 z.0) (outcome h actor step)
  unfolding outcome
  outcome_counts (Thread t) step = on_bind (thread_gate h t step) _ _ (λ u e. thread_counts h t step)
  outcome_counts (Worker w) step = on_bind (worker_gate h w step) _ _ (λ u e. worker_stays w step)

pub steps_count : (h : HeapState) (actor : Actor) (step : Step) (g : HeapState) (answer : Answer)
    → outcome h actor step ≡ accepted (g, answer) → CountsStep h actor step answer g
steps_count h actor step g answer e = of_accepted
    (λ (z : HeapState × Answer). CountsStep h actor step z.1 z.0) (outcome h actor step) (g, answer)
    (outcome_counts h actor step) e
