-- Sequences of steps that neither begin a load nor park a thread or let it run.
use Rattle.std.proofs.Common.{◌≡◌, ◌∙◌, ℕ, zero, suc, ◌+◌, ◌-◌, ◌*◌, Bool, true, false, cond, List, map}
use Rattle.std.proofs.Common.{length, Option, Some, None, refl, sym, subst, ap, not}
use Rattle.std.specs.Prelude.{Result, Ok, Err, ◌&&◌, ◌||◌, is_some, nat_lt, nat_le}
use Rattle.std.specs.List.{slice_get, list_any}
use Rattle.model.specs.declared.records.Barrier.{Barrier}
use Rattle.model.specs.declared.records.Buffer.{Buffer}
use Rattle.model.specs.declared.records.Counter.{Counter}
use Rattle.model.specs.declared.records.Counter.TheVariants as counters
use Rattle.model.specs.declared.records.Place.{Place}
use Rattle.model.specs.declared.records.Place.TheVariants as places
use Rattle.model.specs.declared.records.Room.{Room}
use Rattle.model.specs.declared.records.Room.TheVariants.{NoFrames, NoPages, NoMemory}
use Rattle.model.specs.declared.records.Scan.{Scan}
use Rattle.model.specs.declared.steps.Actor.{Actor}
use Rattle.model.specs.declared.steps.Actor.TheVariants.{Thread, Worker}
use Rattle.model.specs.declared.steps.Answer.{Answer}
use Rattle.model.specs.declared.steps.Answer.TheVariants as answers
use Rattle.model.specs.declared.steps.Refusal.TheVariants as refusals
use Rattle.model.specs.declared.steps.Step.{Step}
use Rattle.model.specs.declared.steps.Step.TheVariants as steps
use Rattle.model.specs.Births.{new_outcome, place_object, hand_object}
use Rattle.model.specs.Bits.{of_page, bit_on}
use Rattle.model.specs.Buffers.{take_outcome, take_result, lend_buffer, give_back_outcome, with_buffer}
use Rattle.model.specs.Buffers.{buffer_of_thread}
use Rattle.model.specs.Checkpoints.{with_crossed, with_marked_word, with_marked_register, with_marked_registers}
use Rattle.model.specs.Checkpoints.{marked_at_crossing, cross_thread, may_cross, cross_outcome, cross_for_outcome}
use Rattle.model.specs.Cycles.{start_mark, start_mark_outcome, end_mark, end_mark_outcome, has_todo, none_pending}
use Rattle.model.specs.Cycles.{first_pending, is_uncopied}
use Rattle.model.specs.Data.{datum_outcome, datum_at, set_datum_outcome}
use Rattle.model.specs.Emptying.{copy_outcome, heap_after, copies_from, copy_page, copy_page_outcome, entry_on}
use Rattle.model.specs.Emptying.{crossed_if_protecting, release_outcome}
use Rattle.model.specs.Loads.{with_barrier, barrier_of_thread, with_loaded, gc_trap_due, nmt_trap, nmt_trap_due}
use Rattle.model.specs.Loads.{heal_outcome, heal_place, finish_outcome, end_load, may_finish, trap_due}
use Rattle.model.specs.Loads.{is_refused, are_bits_of, bits_at, set_healed}
use Rattle.model.specs.Marks.{with_mark, marked_word}
use Rattle.model.specs.Moves.{copied_first, copied_for, moved_word}
use Rattle.model.specs.Outcome.{outcome, thread_gate, thread_row, worker_gate, worker_row}
use Rattle.model.specs.Phases.{is_idle, is_protect_crossing, may_start_mark}
use Rattle.model.specs.Plans.{plan_of, target_count, moves_of}
use Rattle.model.specs.Protections.{protect, protect_outcome, with_protected, with_targets, behind_target, with_target}
use Rattle.model.specs.Protections.{take_target, all_ripe, room_for}
use Rattle.model.specs.References.{store_outcome, store_global_outcome, field_at, with_place, with_global, global_of}
use Rattle.model.specs.Refusing.{Outcome}
use Rattle.model.specs.Registers.{register_of, with_register, usable, usable_or_null, let_through, same_outcome}
use Rattle.model.specs.Registers.{is_null_outcome, copy_register_outcome, clear_register_outcome}
use Rattle.model.specs.Scans.{pick_outcome, may_scan, with_scan, scan_of, is_taken, scan_field_outcome, scan_next}
use Rattle.model.specs.Scans.{mark_place, with_marked_place, with_scan_end, scan_global_outcome, mark_global}
use Rattle.model.specs.Scans.{with_marked_global, is_todo_in, reference_in}
use Rattle.model.specs.States.{HeapState, ThreadState, Reference}
use Rattle.model.specs.Stores.{StoreState, take_buffer, word_at, state_at, is_from}
use Rattle.model.specs.Threads.{set_register_of, set_buffer_of, set_barrier_of, set_loaded_of, set_crossed_of}
use Rattle.model.specs.Threads.{barrier_of, is_parked_in}
use Rattle.model.specs.Traps.{gc_trap, trap_outcome, scrub_outcome}
use Rattle.refinement.proofs.Accepted.{OnAccepted, of_accepted, on_bind, on_some, on_test, on_truth, on_either}
use Rattle.refinement.proofs.Accepted.{on_unless}
use Rattle.portions.proofs.Staying.{AllStay, SameThreads, Stays, all_same, all_then, changed_all, changed_stays}
use Rattle.portions.proofs.Staying.{copy_same, first_same, for_same, mapped_stay, same_none, same_stay, same_then}
use Rattle.portions.proofs.Staying.{AllKeep, keep_none, keep_same, stays_same}

-- after an accepted step all threads stay
abbrev pub Stay : HeapState → Outcome → Type 0
Stay h o = OnAccepted (λ (z : HeapState × Answer). AllStay h z.0) o

-- all threads stay, and the phase is as it was
abbrev pub Keep : HeapState → Outcome → Type 0
Keep h o = OnAccepted (λ (z : HeapState × Answer). AllKeep h z.0) o

-- a step that may begin a load, move the phase, park a thread, or let it run
abbrev pub turns : Step → Bool
turns (steps.Load target object i) = true
turns (steps.LoadGlobal target g) = true
turns steps.Cross = true
turns steps.Park = true
turns steps.Unpark = true
turns _ = false

-- such a step of a thread, except crossings
abbrev pub disturbs : Actor → Step → Bool
disturbs (Thread t) steps.Cross = false
disturbs (Thread t) step = turns step
disturbs (Worker w) step = false

-- ---- crossings

marked_stays : (h : HeapState) (t r : ℕ) → AllStay h (with_marked_register h t r)
unfolding with_marked_register with_marked_word with_register with_mark
marked_stays h t r =
    let m : HeapState = copied_for h (register_of h t r) in
    let v : Reference = marked_word m (register_of h t r) in
    record {
      each = (changed_all h m t (set_register_of r v) (for_same h (register_of h t r))
          (λ x e. record { loading = λ l. l; parked = refl; runs = refl })).each;
      config = (for_same h (register_of h t r)).config;
    }

registers_stay : (h : HeapState) (t n : ℕ) → AllStay h (with_marked_registers h t n)
registers_stay h t zero = all_same h
registers_stay h t (suc n) = all_then h (with_marked_registers h t n) (with_marked_registers h t (suc n))
    (registers_stay h t n) (marked_stays (with_marked_registers h t n) t n)

crossed_stays : (h : HeapState) (t : ℕ) → AllStay h (with_crossed h t)
unfolding with_crossed
crossed_stays h t = record {
  each = changed_stays h.threads t (set_crossed_of true)
      (λ x e. record { loading = λ l. l; parked = refl; runs = refl });
  config = refl;
}

cross_row : (h : HeapState) (t : ℕ) → Stay h (cross_outcome h t)
unfolding cross_outcome cross_thread
cross_row h t = on_bind (may_cross h t) _ _ (λ u f.
    all_then h (with_marked_registers h t (marked_at_crossing h)) _ (registers_stay h t (marked_at_crossing h))
    (crossed_stays (with_marked_registers h t (marked_at_crossing h)) t))

-- ---- steps of threads

module _ (h : HeapState) (t : ℕ) where
  take_row : (n : ℕ) → Keep h (take_outcome h t n)
  unfolding take_outcome lend_buffer
  take_row n = on_test (is_some (buffer_of_thread h t)) _ _ _ (λ e. by_room (take_buffer h.store n))
    where
      by_room : (r : Result (StoreState × Buffer) Room) → Keep h (take_result h t r)
      by_room (Ok x) = record {
        stay = record {
          each = changed_stays h.threads t (set_buffer_of (Some x.1))
              (λ y e. record { loading = λ l. l; parked = refl; runs = refl });
          config = refl;
        };
        phase = refl;
      }
      by_room (Err NoFrames) = tt
      by_room (Err NoPages) = tt
      by_room (Err NoMemory) = tt

  give_row : Keep h (give_back_outcome h t)
  unfolding give_back_outcome with_buffer
  give_row = on_truth (is_some (buffer_of_thread h t)) _ _ _ (λ e. record {
    stay = record {
      each = changed_stays h.threads t (set_buffer_of None)
          (λ y f. record { loading = λ l. l; parked = refl; runs = refl });
      config = refl;
    };
    phase = refl;
  })

  new_row : (target number : ℕ) → Keep h (new_outcome h t target number)
  unfolding new_outcome place_object
  new_row target number = on_some (buffer_of_thread h t) _ _ _ (λ b e. on_some (slice_get h.config.layouts number) _ _ _
      (λ l f. on_test (nat_lt (b.end - b.next) _) _ _ _ (λ g. on_test (nat_le h.config.births h.births) _ _ _ (λ i.
      record {
        stay = record {
          each = changed_stays h.threads t (hand_object target (Some (b.page * h.store.words + b.next, h.nmt)) _)
              (λ y j. record { loading = λ k. k; parked = refl; runs = refl });
          config = refl;
        };
        phase = refl;
      }))))

  -- the barrier is open, and stays so, in a heap like this one
  barrier_stays : (m : HeapState) (b c : Barrier) (n : Counter) → SameThreads h m → barrier_of_thread h t ≡ Some b
      → AllKeep h (with_barrier m t c n)
  unfolding with_barrier
  barrier_stays m b c n k e = record {
    stay = changed_all h m t (set_barrier_of c n) k (λ x f. record {
      loading = λ l. ap is_some (sym (ap barrier_of f) ∙ e);
      parked = refl;
      runs = refl;
    });
    phase = k.phase;
  }

  gc_row : (b : Barrier) (w : Reference) → barrier_of_thread h t ≡ Some b → Keep h (gc_trap h t b w)
  gc_row b None e = keep_none h
  gc_row b (Some w) e = on_test (is_protect_crossing h.phase) _ _ _ (λ f.
      barrier_stays (copied_first h w.0) b _ counters.Gc (first_same h w.0) e)

  nmt_row : (b : Barrier) → barrier_of_thread h t ≡ Some b → Keep h (nmt_trap h t b)
  unfolding with_mark
  nmt_row b e = on_either (nmt_trap_due h t b.now) _ _ _ (λ f. barrier_stays
      (with_mark (copied_for h b.now) b.now) b _ counters.Nmt (same_then h (copied_for h b.now) _ (for_same h b.now)
      (record { threads = refl; config = refl; phase = refl })) e) (λ f. keep_none h)

  trap_row : Keep h (trap_outcome h t)
  unfolding trap_outcome
  trap_row = on_some (barrier_of_thread h t) _ _ _ (λ b e. on_either (gc_trap_due h t b.now) _ _ _
      (λ f. gc_row b b.now e) (λ f. nmt_row b e))

  heal_row : Keep h (heal_outcome h t)
  unfolding heal_outcome heal_place with_global
  heal_row = on_some (barrier_of_thread h t) _ _ _ (λ b e. on_test (trap_due h t b.now) _ _ _ (λ f.
      by_bits b e (are_bits_of (bits_at h b.place) b.raw) b.place))
    where
      at_place : (b : Barrier) (z : Place) → SameThreads h (with_place h z b.now)
      at_place b (places.Field a i) = (record { threads = refl; config = refl; phase = refl })
      at_place b (places.Global n) = (record { threads = refl; config = refl; phase = refl })

      by_bits : (b : Barrier) → barrier_of_thread h t ≡ Some b → (c : Bool) (z : Place) → Keep h (Ok (cond c
          (with_barrier (with_place h z b.now) t (set_healed b) counters.Healed, answers.Healed)
          (with_barrier h t (set_healed b) counters.Changed, answers.Changed)))
      by_bits b e true z = barrier_stays (with_place h z b.now) b (set_healed b) counters.Healed (at_place b z) e
      by_bits b e false z = barrier_stays h b (set_healed b) counters.Changed (same_none h) e

  finish_row : Keep h (finish_outcome h t)
  unfolding finish_outcome end_load with_loaded
  finish_row = on_some (barrier_of_thread h t) _ _ _ (λ b e. on_test (trap_due h t b.now) _ _ _ (λ f.
      on_truth (may_finish b) _ _ _ (λ m. record {
        stay = record {
          each = changed_stays h.threads t (set_loaded_of b.target b.now)
              (λ y g. record { loading = λ l. absurd (cc); parked = refl; runs = refl });
          config = refl;
        };
        phase = refl;
      })))

  store_row : (o i r : ℕ) → Keep h (store_outcome h t o i r)
  unfolding store_outcome
  store_row o i r = on_bind (usable h t o) _ _ (λ a e. on_some (field_at h a i) _ _ _ (λ n f.
      on_bind (usable_or_null h t r) _ _ (λ u g.
      keep_same h _ (record { threads = refl; config = refl; phase = refl }))))

  store_global_row : (n r : ℕ) → Keep h (store_global_outcome h t n r)
  unfolding store_global_outcome with_global
  store_global_row n r = on_bind (usable_or_null h t r) _ _ (λ u g.
      keep_same h _ (record { threads = refl; config = refl; phase = refl }))

  datum_row : (o j : ℕ) → Keep h (datum_outcome h t o j)
  unfolding datum_outcome
  datum_row o j = on_bind (usable h t o) _ _ (λ a e. on_some (datum_at h a j) _ _ _ (λ n f.
      on_some (word_at h.store n) _ _ _ (λ v g. keep_none h)))

  set_datum_row : (o j v : ℕ) → Keep h (set_datum_outcome h t o j v)
  unfolding set_datum_outcome
  set_datum_row o j v = on_bind (usable h t o) _ _ (λ a e. on_some (datum_at h a j) _ _ _ (λ n f.
      keep_same h _ (record { threads = refl; config = refl; phase = refl })))

  same_row : (l r : ℕ) → Keep h (same_outcome h t l r)
  unfolding same_outcome
  same_row l r = on_bind (usable_or_null h t l) _ _ (λ a e. on_bind (usable_or_null h t r) _ _ (λ b f. keep_none h))

  register_stays : (m : HeapState) (r : ℕ) (w : Reference) → SameThreads h m → AllKeep h (with_register m t r w)
  unfolding with_register
  register_stays m r w k = record {
    stay = changed_all h m t (set_register_of r w) k
        (λ x e. record { loading = λ l. l; parked = refl; runs = refl });
    phase = k.phase;
  }

  scrub_row : (r : ℕ) → Keep h (scrub_outcome h t r)
  unfolding scrub_outcome
  scrub_row r = on_some (register_of h t r) _ _ _ (λ w e. on_either (not (is_refused (let_through h t w.0))) _ _ _
      (λ f. keep_none h) (λ f. on_test (is_protect_crossing h.phase) _ _ _ (λ g.
      register_stays (copied_first h w.0) r (Some (moved_word h w)) (first_same h w.0))))

  thread_rows : (step : Step) → turns step ≡ false → Keep h (thread_row h t step)
  unfolding is_null_outcome copy_register_outcome clear_register_outcome
  thread_rows (steps.Take n) e = take_row n
  thread_rows steps.GiveBack e = give_row
  thread_rows (steps.New target number) e = new_row target number
  thread_rows (steps.Load target o i) e = absurd (cc)
  thread_rows (steps.LoadGlobal target g) e = absurd (cc)
  thread_rows steps.Trap e = trap_row
  thread_rows steps.Heal e = heal_row
  thread_rows steps.Finish e = finish_row
  thread_rows (steps.Store o i r) e = store_row o i r
  thread_rows (steps.StoreGlobal n r) e = store_global_row n r
  thread_rows (steps.Datum o j) e = datum_row o j
  thread_rows (steps.SetDatum o j v) e = set_datum_row o j v
  thread_rows (steps.Same l r) e = same_row l r
  thread_rows (steps.IsNull r) e = keep_none h
  thread_rows (steps.CopyReg target r) e = register_stays h target (register_of h t r) (same_none h)
  thread_rows (steps.ClearReg target) e = register_stays h target None (same_none h)
  thread_rows steps.Cross e = absurd (cc)
  thread_rows (steps.Scrub r) e = scrub_row r
  thread_rows steps.Park e = absurd (cc)
  thread_rows steps.Unpark e = absurd (cc)
  thread_rows _ e = tt

-- ---- steps of workers

targets_same : (k : ℕ) (h : HeapState) → SameThreads h (with_targets k h).0
unfolding with_target
targets_same zero h = same_none h
targets_same (suc k) h = by_room (λ m. targets_same k m) (take_target h.store)
  where
    by_room : ((m : HeapState) → SameThreads m (with_targets k m).0) → (r : Result (StoreState × Buffer) Room)
        → SameThreads h (behind_target (with_targets k) h r).0
    by_room f (Err e) = same_none h
    by_room f (Ok x) = same_then h (with_target h x) _ (record { threads = refl; config = refl; phase = refl })
        (f (with_target h x))

copied_same : (h : HeapState) (page e : ℕ) → OnAccepted (λ (z : HeapState × Answer). SameThreads h z.0)
    (copy_outcome h page e)
unfolding copy_outcome
copied_same h page e = on_unless (is_idle h.phase) _ _ _ (λ a. on_bind (crossed_if_protecting h) _ _ (λ u b.
    on_some (entry_on h page e) _ _ _ (λ f c. on_unless f.copied _ _ _ (λ d. copy_same h _ f.to))))

after_same : (h : HeapState) (o : Outcome) → OnAccepted (λ (z : HeapState × Answer). SameThreads h z.0) o
    → SameThreads h (heap_after h o)
after_same h (Ok x) k = k
after_same h (Err n) k = same_none h

copies_same : (h : HeapState) (page e k : ℕ) → SameThreads h (copies_from h page e k)
copies_same h page e zero = same_none h
copies_same h page e (suc k) = same_then h (heap_after h (copy_outcome h page e)) _
    (after_same h (copy_outcome h page e) (copied_same h page e))
    (copies_same (heap_after h (copy_outcome h page e)) page (e + 1) k)

module _ (h : HeapState) where
  start_row : Stay h (start_mark_outcome h)
  unfolding start_mark_outcome start_mark
  start_row = on_truth (may_start_mark h.phase) _ _ _ (λ e. record {
    each = mapped_stay h.threads (set_crossed_of false) (λ x. record { loading = λ l. l; parked = refl; runs = refl });
    config = refl;
  })

  pick_row : (w page offset : ℕ) → Stay h (pick_outcome h w page offset)
  unfolding pick_outcome with_scan
  pick_row w page offset = on_bind (may_scan h) _ _ (λ u e.
      on_test (not (nat_lt offset h.store.words && bit_on h.todo page offset)) _ _ _ (λ f.
      on_test (is_some (scan_of h w) || is_taken h (page * h.store.words + offset)) _ _ _ (λ g.
      same_stay h _ (record { threads = refl; config = refl; phase = refl }))))

  field_row : (w : ℕ) → Stay h (scan_field_outcome h w)
  unfolding scan_field_outcome with_scan_end mark_place with_marked_place with_mark with_scan
  field_row w = on_bind (may_scan h) _ _ (λ u e. on_some (scan_of h w) _ _ _ (λ c f.
      by_place c (field_at h c.object c.next)))
    where
      by_place : (c : Scan) (o : Option ℕ) → Stay h (scan_next h w c o)
      by_place c None = same_stay h _ (record { threads = refl; config = refl; phase = refl })
      by_place c (Some n) = same_stay h _ (same_then h (copied_for h (reference_in (word_at h.store n))) _
          (for_same h (reference_in (word_at h.store n))) (record { threads = refl; config = refl; phase = refl }))

  global_row : (g : ℕ) → Stay h (scan_global_outcome h g)
  unfolding scan_global_outcome mark_global with_marked_global with_mark
  global_row g = on_bind (may_scan h) _ _ (λ u e. on_truth (is_todo_in (slice_get h.globals g)) _ _ _ (λ f.
      same_stay h _ (same_then h (copied_for h (global_of h g)) _ (for_same h (global_of h g))
      (record { threads = refl; config = refl; phase = refl }))))

  end_row : Stay h (end_mark_outcome h)
  unfolding end_mark_outcome end_mark
  end_row = on_bind (may_scan h) _ _ (λ u e. on_unless (has_todo h) _ _ _ (λ f.
      on_bind (none_pending (first_pending h.threads)) _ _ (λ v g.
      record { each = λ u. stays_same (slice_get h.threads u); config = refl })))

  protect_row : (pages : List ℕ) → Stay h (protect_outcome h pages)
  unfolding protect_outcome protect with_protected
  protect_row pages = on_unless (not (is_idle h.phase)) _ _ _ (λ e. on_bind (all_ripe h pages) _ _ (λ u f.
      on_bind (room_for h.store (target_count (plan_of h pages))) _ _ (λ v g.
      by_targets (with_targets (target_count (plan_of h pages)) h) (targets_same (target_count (plan_of h pages)) h))))
    where
      by_targets : (x : HeapState × List ℕ) → SameThreads h x.0
          → AllStay h (with_protected h x.0 pages (moves_of h pages x.1))
      by_targets x k = record {
        each = λ u. subst (λ (ts : List ThreadState). Stays (slice_get h.threads u)
            (slice_get (map (set_crossed_of false) ts) u)) (sym k.threads)
            (mapped_stay h.threads (set_crossed_of false)
            (λ y. record { loading = λ l. l; parked = refl; runs = refl }) u);
        config = k.config;
      }

  copy_row : (page e : ℕ) → Stay h (copy_outcome h page e)
  copy_row page e = by_outcome (copy_outcome h page e) (copied_same h page e)
    where
      by_outcome : (o : Outcome) → OnAccepted (λ (z : HeapState × Answer). SameThreads h z.0) o → Stay h o
      by_outcome (Ok x) k = same_stay h x.0 k
      by_outcome (Err n) k = tt

  copy_page_row : (page : ℕ) → Stay h (copy_page_outcome h page)
  unfolding copy_page_outcome copy_page
  copy_page_row page = on_unless (is_idle h.phase) _ _ _ (λ a. on_bind (crossed_if_protecting h) _ _ (λ u b.
      on_unless (not (is_from (state_at h.store page))) _ _ _ (λ c.
      same_stay h _ (copies_same h page 0 (length (of_page h.sides page))))))

  release_row : (page : ℕ) → Stay h (release_outcome h page)
  unfolding release_outcome
  release_row page = on_unless (is_idle h.phase) _ _ _ (λ a. on_bind (crossed_if_protecting h) _ _ (λ u b.
      on_unless (not (is_from (state_at h.store page))) _ _ _ (λ c.
      on_unless (list_any is_uncopied (of_page h.sides page)) _ _ _ (λ d.
      same_stay h _ (record { threads = refl; config = refl; phase = refl })))))

  cross_for_row : (t : ℕ) → Stay h (cross_for_outcome h t)
  unfolding cross_for_outcome
  cross_for_row t = on_test (not (is_parked_in (slice_get h.threads t))) refusals.NotParked (cross_outcome h t)
      (λ (z : HeapState × Answer). AllStay h z.0) (λ e. cross_row h t)

  worker_rows : (w : ℕ) (step : Step) → Stay h (worker_row h w step)
  worker_rows w steps.StartMark = start_row
  worker_rows w (steps.Pick page offset) = pick_row w page offset
  worker_rows w steps.ScanField = field_row w
  worker_rows w (steps.ScanGlobal g) = global_row g
  worker_rows w steps.EndMark = end_row
  worker_rows w (steps.Protect pages) = protect_row pages
  worker_rows w (steps.Copy page e) = copy_row page e
  worker_rows w (steps.CopyPage page) = copy_page_row page
  worker_rows w (steps.Release page) = release_row page
  worker_rows w (steps.CrossFor t) = cross_for_row t
  worker_rows w _ = tt

-- ---- steps

keeps_stay : (h : HeapState) (o : Outcome) → Keep h o → Stay h o
keeps_stay h (Ok z) k = k.stay
keeps_stay h (Err n) k = tt

thread_stays : (h : HeapState) (t : ℕ) (step : Step) → disturbs (Thread t) step ≡ false → Stay h (thread_row h t step)
thread_stays h t steps.Cross e = cross_row h t
thread_stays h t step e = keeps_stay h (thread_row h t step) (thread_rows h t step e)

rows_stay : (h : HeapState) (actor : Actor) (step : Step) → disturbs actor step ≡ false → Stay h (outcome h actor step)
unfolding outcome
rows_stay h (Thread t) step e = on_bind (thread_gate h t step) _ _ (λ u f. thread_stays h t step e)
rows_stay h (Worker w) step e = on_bind (worker_gate h w step) _ _ (λ u f. worker_rows h w step)

pub step_stays : (h : HeapState) (actor : Actor) (step : Step) (g : HeapState) (a : Answer)
    → disturbs actor step ≡ false → outcome h actor step ≡ Ok (g, a) → AllStay h g
step_stays h actor step g a e ok = of_accepted (λ (z : HeapState × Answer). AllStay h z.0) (outcome h actor step)
    (g, a) (rows_stay h actor step e) ok

rows_keep : (h : HeapState) (t : ℕ) (step : Step) → turns step ≡ false → Keep h (outcome h (Thread t) step)
unfolding outcome
rows_keep h t step e = on_bind (thread_gate h t step) _ _ (λ u f. thread_rows h t step e)

pub step_keeps : (h : HeapState) (t : ℕ) (step : Step) (g : HeapState) (a : Answer) → turns step ≡ false
    → outcome h (Thread t) step ≡ Ok (g, a) → AllKeep h g
step_keeps h t step g a e ok = of_accepted (λ (z : HeapState × Answer). AllKeep h z.0) (outcome h (Thread t) step)
    (g, a) (rows_keep h t step e) ok
