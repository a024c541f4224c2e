-- Complete loads of a thread that runs alone, while no checkpoint is open: they always end.
use Rattle.std.proofs.Common.{◌≡◌, ◌≢◌, ◌⊎◌, ◌∙◌, ◌<◌, ℕ, Bool, true, false, cond, List, [], ◌∷◌, set, length}
use Rattle.std.proofs.Common.{◌≤◌, get_or, arith, Option, Some, None, nat_le, refl, sym, subst, ap, inl, inr}
use Rattle.std.specs.Prelude.{Result, Ok, Err, ◌&&◌, ◌||◌, if◌then◌else◌, is_some}
use Rattle.std.specs.List.{slice_get}
use Rattle.std.proofs.lemmas.Bool.{cases_eq, true≢false, leb-false, leb-true}
use Rattle.std.proofs.lemmas.Option.{slice_get_cases, slice_get_past}
use Rattle.model.specs.declared.config.Config.{Config}
use Rattle.model.specs.declared.records.Barrier.{Barrier}
use Rattle.model.specs.declared.records.Counter.{Counter}
use Rattle.model.specs.declared.records.Counter.TheVariants as counters
use Rattle.model.specs.declared.records.Phase.{Phase}
use Rattle.model.specs.declared.records.Place.{Place}
use Rattle.model.specs.declared.records.Place.TheVariants as places
use Rattle.model.specs.declared.steps.Actor.{Actor}
use Rattle.model.specs.declared.steps.Actor.TheVariants.{Thread, Worker}
use Rattle.model.specs.declared.steps.Answer.{Answer}
use Rattle.model.specs.declared.steps.Answer.TheVariants as answers
use Rattle.model.specs.declared.steps.Refusal.{Refusal}
use Rattle.model.specs.declared.steps.Refusal.TheVariants as refusals
use Rattle.model.specs.declared.steps.Step.{Step}
use Rattle.model.specs.declared.steps.Step.TheVariants as steps
use Rattle.model.specs.Loads.{with_barrier, barrier_of_thread, load_outcome, load_global_outcome, gc_trap_due, nmt_trap}
use Rattle.model.specs.Loads.{nmt_trap_due, heal_outcome, trap_due, are_bits_of, bits_at, set_healed, heal_place}
use Rattle.model.specs.Loads.{finish_outcome, end_load, may_finish, with_loaded, set_now_of}
use Rattle.model.specs.Marks.{with_mark, marked_word}
use Rattle.model.specs.Moves.{copied_first, copied_for, moved_word}
use Rattle.model.specs.Outcome.{outcome, thread_gate, thread_row, is_loading_in, has_bad_index}
use Rattle.model.specs.Phases.{is_crossing, is_protect_crossing}
use Rattle.model.specs.References.{field_at, with_place, with_global}
use Rattle.model.specs.Refusing.{◌>>=◌, Outcome, or_refuse}
use Rattle.model.specs.Registers.{usable}
use Rattle.model.specs.States.{HeapState, ThreadState, Reference, change_at, change_found}
use Rattle.model.specs.Stores.{word_at}
use Rattle.model.specs.Threads.{is_parked_in, barrier_of, set_barrier_of, set_loaded_of}
use Rattle.model.specs.Traps.{gc_trap, trap_outcome}
use Rattle.model.proofs.Lists.{get_set_same, get_set_other}
use Rattle.refinement.proofs.Accepted.{OnAccepted, of_accepted, on_bind, on_some, on_test, on_truth, on_either}
use Rattle.refinement.proofs.Accepted.{on_accepted, on_has}
use Rattle.entries.specs.declared.entry.Entry.{Entry}
use Rattle.managed.specs.Goings.{EachIs, IsInBarrier, IsTrapOrHeal, LoadsWhole, Steps}
use Rattle.managed.specs.Runs.{Leads}
use Rattle.portions.specs.Apart.{IsApart, runs_in}
use Rattle.portions.proofs.Doing.{not_protecting}
use Rattle.portions.proofs.Parking.{is_false}
use Rattle.portions.proofs.Rows.{disturbs, step_stays}
use Rattle.portions.proofs.Staying.{AllStay, SameThreads, first_same, for_same, same_none, same_then}

-- the step begins a load
abbrev pub begins_load : Step → Bool
begins_load (steps.Load target object i) = true
begins_load (steps.LoadGlobal target g) = true
begins_load _ = false

-- thread t runs alone and is inside a load, and no checkpoint is open
record IsLoading (h : HeapState) (t : ℕ) : Type 0 where
  phase : is_crossing h.phase ≡ false
  inside : is_loading_in (slice_get h.threads t) ≡ true
  runs : is_parked_in (slice_get h.threads t) ≡ false
  others : (u : ℕ) → u ≢ t → is_loading_in (slice_get h.threads u) ≡ false
  alone : (u : ℕ) → runs_in (slice_get h.threads u) ≡ true → u ≡ t
  workers : 0 < h.config.workers

-- ---- a barrier of thread t is opened, or written

-- the phase stays, and thread t has a barrier
record HasBarrier (h : HeapState) (t : ℕ) (g : HeapState) : Type 0 where
  phase : g.phase ≡ h.phase
  inside : is_loading_in (slice_get g.threads t) ≡ true

is_there : (o : Option ThreadState) (b : Barrier) → barrier_of o ≡ Some b → is_loading_in o ≡ true
is_there None b e = absurd (cc)
is_there (Some x) b e = ap is_some e

module _ (h : HeapState) (t : ℕ) where
  barrier_set : (m : HeapState) (b c : Barrier) (n : Counter) → SameThreads h m → barrier_of_thread h t ≡ Some b
      → HasBarrier h t (with_barrier m t c n)
  unfolding with_barrier
  barrier_set m b c n k e = record {
    phase = k.phase;
    inside = subst (λ (ts : List ThreadState).
        is_loading_in (slice_get (change_at ts t (set_barrier_of c n)) t) ≡ true) (sym k.threads)
        (by_thread (slice_get h.threads t) refl);
  }
    where
      by_thread : (o : Option ThreadState) → slice_get h.threads t ≡ o
          → is_loading_in (slice_get (change_found h.threads t o (set_barrier_of c n)) t) ≡ true
      by_thread None f = absurd (cc)
      by_thread (Some x) f = ap is_loading_in (get_set_same h.threads t x (set_barrier_of c n x) f)

  barrier_kept : (b : Barrier) → barrier_of_thread h t ≡ Some b → HasBarrier h t h
  barrier_kept b e = record { phase = refl; inside = is_there (slice_get h.threads t) b e }

  trap_keeps : OnAccepted (λ (z : HeapState × Answer). HasBarrier h t z.0) (trap_outcome h t)
  unfolding trap_outcome with_mark
  trap_keeps = on_some (barrier_of_thread h t) _ _ _ (λ b e. on_either (gc_trap_due h t b.now) _ _ _
      (λ f. by_word b b.now e) (λ f. on_either (nmt_trap_due h t b.now) _ _ _
      (λ g. barrier_set (with_mark (copied_for h b.now) b.now) b _ counters.Nmt
      (same_then h (copied_for h b.now) _ (for_same h b.now)
      (record { threads = refl; config = refl; phase = refl })) e) (λ g. barrier_kept b e)))
    where
      by_word : (b : Barrier) (w : Reference) → barrier_of_thread h t ≡ Some b
          → OnAccepted (λ (z : HeapState × Answer). HasBarrier h t z.0) (gc_trap h t b w)
      by_word b None e = barrier_kept b e
      by_word b (Some w) e = on_test (is_protect_crossing h.phase) _ _ _ (λ f.
          barrier_set (copied_first h w.0) b _ counters.Gc (first_same h w.0) e)

  heal_keeps : OnAccepted (λ (z : HeapState × Answer). HasBarrier h t z.0) (heal_outcome h t)
  unfolding heal_outcome heal_place with_global
  heal_keeps = on_some (barrier_of_thread h t) _ _ _ (λ b e. on_test (trap_due h t b.now) _ _ _ (λ f.
      by_bits b e (are_bits_of (bits_at h b.place) b.raw) b.place))
    where
      at_place : (b : Barrier) (z : Place) → SameThreads h (with_place h z b.now)
      at_place b (places.Field a i) = record { threads = refl; config = refl; phase = refl }
      at_place b (places.Global n) = record { threads = refl; config = refl; phase = refl }

      by_bits : (b : Barrier) → barrier_of_thread h t ≡ Some b → (c : Bool) (z : Place)
          → OnAccepted (λ (z : HeapState × Answer). HasBarrier h t z.0) (Ok (cond c
          (with_barrier (with_place h z b.now) t (set_healed b) counters.Healed, answers.Healed)
          (with_barrier h t (set_healed b) counters.Changed, answers.Changed)))
      by_bits b e true z = barrier_set (with_place h z b.now) b (set_healed b) counters.Healed (at_place b z) e
      by_bits b e false z = barrier_set h b (set_healed b) counters.Changed (same_none h) e

  -- a load ends: the barrier is closed
  finish_closes : OnAccepted (λ (z : HeapState × Answer). (z.0.phase ≡ h.phase)
      × (is_loading_in (slice_get z.0.threads t) ≡ false)) (finish_outcome h t)
  unfolding finish_outcome end_load with_loaded
  finish_closes = on_some (barrier_of_thread h t) _ _ _ (λ b e. on_test (trap_due h t b.now) _ _ _ (λ f.
      on_truth (may_finish b) _ _ _ (λ m. (refl, by_thread b (slice_get h.threads t) refl))))
    where
      by_thread : (b : Barrier) (o : Option ThreadState) → slice_get h.threads t ≡ o
          → is_loading_in (slice_get (change_found h.threads t o (set_loaded_of b.target b.now)) t) ≡ false
      by_thread b None f = ap is_loading_in f
      by_thread b (Some x) f = ap is_loading_in (get_set_same h.threads t x (set_loaded_of b.target b.now x) f)

-- ---- a load begins

-- thread t exists, runs, and has a barrier now; else nothing has changed
record Opens (h : HeapState) (t : ℕ) (g : HeapState) : Type 0 where
  barrier : Barrier
  counter : Counter
  is : g ≡ with_barrier h t barrier counter

load_opens : (h : HeapState) (t target object i : ℕ)
    → OnAccepted (λ (z : HeapState × Answer). Opens h t z.0) (load_outcome h t target object i)
unfolding load_outcome
load_opens h t target object i = on_bind (usable h t object) _ _ (λ a e. on_some (field_at h a i) _ _ _ (λ n f.
    on_some (word_at h.store n) _ _ _ (λ v g. record { barrier = _; counter = counters.Loads; is = refl })))

load_global_opens : (h : HeapState) (t target g : ℕ)
    → OnAccepted (λ (z : HeapState × Answer). Opens h t z.0) (load_global_outcome h t target g)
unfolding load_global_outcome
load_global_opens h t target g = record { barrier = _; counter = counters.Loads; is = refl }

-- a thread exists, and isn't parked
abbrev IsRunning : HeapState → ℕ → Type 0
IsRunning h t = (nat_le (length h.threads) t ≡ false) × (is_parked_in (slice_get h.threads t) ≡ false)

or_false : (b : Bool) → (b || false) ≡ false → b ≡ false
or_false true e = e
or_false false e = refl

and_true : (b : Bool) → (b && true) ≡ false → b ≡ false
and_true true e = e
and_true false e = refl

-- a thread that has passed these tests exists, and runs
gate_runs : (h : HeapState) (t : ℕ) (step : Step) → begins_load step ≡ true
    → OnAccepted (λ (u : Unit {0}). IsRunning h t) (thread_gate h t step)
unfolding thread_gate
gate_runs h t step e = by_step step e
  where
    passed : Result (Unit {0}) Refusal
    passed = Ok tt

    tests : (c p l : Bool) → OnAccepted (λ (u : Unit {0}). IsRunning h t)
        (cond (nat_le (length h.threads) t || false) (Err refusals.NoActor) (cond c (Err refusals.BadIndex)
        (cond (is_parked_in (slice_get h.threads t) && true) (Err refusals.Parked)
        (cond (is_loading_in (slice_get h.threads t) && true) (Err refusals.Busy) passed))))
    tests c p l = on_test (nat_le (length h.threads) t || false) _ _ _ (λ a. on_test c _ _ _ (λ b.
        on_test (is_parked_in (slice_get h.threads t) && true) _ _ _ (λ d.
        on_test (is_loading_in (slice_get h.threads t) && true) _ _ _ (λ f.
        (or_false (nat_le (length h.threads) t) a, and_true (is_parked_in (slice_get h.threads t)) d)))))

    by_step : (s : Step) → begins_load s ≡ true → OnAccepted (λ (u : Unit {0}). IsRunning h t) (thread_gate h t s)
    by_step (steps.Load target object i) f = tests (has_bad_index h (steps.Load target object i)) false false
    by_step (steps.LoadGlobal target g) f = tests (has_bad_index h (steps.LoadGlobal target g)) false false
    by_step _ f = absurd (cc)

open_row : (h : HeapState) (t : ℕ) (step : Step) → begins_load step ≡ true
    → OnAccepted (λ (z : HeapState × Answer). IsRunning h t × Opens h t z.0) (outcome h (Thread t) step)
unfolding outcome
open_row h t step e = on_has (thread_gate h t step) _ _ _ (gate_runs h t step e) (λ u k.
    on_accepted (thread_row h t step) _ _ (by_step step e) (λ z o. (k, o)))
  where
    by_step : (s : Step) → begins_load s ≡ true
        → OnAccepted (λ (z : HeapState × Answer). Opens h t z.0) (thread_row h t s)
    by_step (steps.Load target object i) f = load_opens h t target object i
    by_step (steps.LoadGlobal target g) f = load_global_opens h t target g
    by_step _ f = absurd (cc)

there : (ts : List ThreadState) (t : ℕ) → nat_le (length ts) t ≡ false → (x : ThreadState) × (slice_get ts t ≡ Some x)
there ts t e = by_case (slice_get_cases ts t).1
  where
    by_case : ((x : ThreadState) × (t < length ts) × (slice_get ts t ≡ Some x) × (get_or ts t x ≡ x))
        ⊎ ((length ts ≤ t) × (slice_get ts t ≡ None)) → (x : ThreadState) × (slice_get ts t ≡ Some x)
    by_case (inl x) = (x.0, x.2)
    by_case (inr l) = absurd (omega (arith, leb-false (length ts) t e, l.0))

-- a thread that runs alone begins a load
begins : (h g : HeapState) (t : ℕ) → IsApart h t → IsRunning h t → Opens h t g → IsLoading g t
unfolding with_barrier
begins h g t k r o = subst (λ (x : HeapState). IsLoading x t) (sym o.is) (record {
  phase = k.phase;
  inside = ap is_loading_in same;
  runs = ap is_parked_in same ∙ (sym (ap is_parked_in x.1) ∙ r.1);
  others = λ u d. ap is_loading_in (other u d) ∙ k.runs.closed u;
  alone = λ u e. by_place u e (cases_eq u t);
  workers = k.runs.workers;
})
  where
    x : (x : ThreadState) × (slice_get h.threads t ≡ Some x)
    x = there h.threads t r.0

    f : ThreadState → ThreadState
    f = set_barrier_of o.barrier o.counter

    found : change_at h.threads t f ≡ set h.threads t (f x.0)
    found = ap (λ (q : Option ThreadState). change_found h.threads t q f) x.1

    same : slice_get (change_at h.threads t f) t ≡ Some (f x.0)
    same = ap (λ (ts : List ThreadState). slice_get ts t) found ∙ get_set_same h.threads t x.0 (f x.0) x.1

    other : (u : ℕ) → u ≢ t → slice_get (change_at h.threads t f) u ≡ slice_get h.threads u
    other u d = ap (λ (ts : List ThreadState). slice_get ts u) found ∙ get_set_other h.threads t u (f x.0) d

    by_place : (u : ℕ) → runs_in (slice_get (change_at h.threads t f) u) ≡ true → (u ≡ t) ⊎ (u ≢ t) → u ≡ t
    by_place u e (inl i) = i
    by_place u e (inr d) = k.runs.alone u (sym (ap runs_in (other u d)) ∙ e)

-- ---- a load continues

-- a trap or a heal
goes_on : (h g : HeapState) (t : ℕ) → AllStay h g → HasBarrier h t g → IsLoading h t → IsLoading g t
goes_on h g t s b k = record {
  phase = subst (λ (f : Phase). is_crossing f ≡ false) (sym b.phase) k.phase;
  inside = b.inside;
  runs = (s.each t).parked ∙ k.runs;
  others = λ u d. is_false (is_loading_in (slice_get g.threads u)) (λ e.
      true≢false (sym ((s.each u).loading e) ∙ k.others u d));
  alone = λ u e. k.alone u (sym (s.each u).runs ∙ e);
  workers = subst (λ (c : Config). 0 < c.workers) (sym s.config) k.workers;
}

barrier_row : (h : HeapState) (t : ℕ) (step : Step) → IsTrapOrHeal step
    → OnAccepted (λ (z : HeapState × Answer). HasBarrier h t z.0) (outcome h (Thread t) step)
unfolding outcome
barrier_row h t steps.Trap is = on_bind (thread_gate h t steps.Trap) _ _ (λ u f. trap_keeps h t)
barrier_row h t steps.Heal is = on_bind (thread_gate h t steps.Heal) _ _ (λ u f. heal_keeps h t)
barrier_row h t _ is = absurd is

not_turns : (t : ℕ) (step : Step) → IsTrapOrHeal step → disturbs (Thread t) step ≡ false
not_turns t steps.Trap is = refl
not_turns t steps.Heal is = refl
not_turns t _ is = absurd is

step_goes_on : (h g : HeapState) (t : ℕ) (actor : Actor) (step : Step) (a : Answer) → IsInBarrier t actor step
    → outcome h actor step ≡ Ok (g, a) → IsLoading h t → IsLoading g t
step_goes_on h g t (Thread u) step a is ok k = goes_on h g t
    (step_stays h (Thread u) step g a (not_turns u step is.1) ok)
    (of_accepted (λ (z : HeapState × Answer). HasBarrier h t z.0) (outcome h (Thread t) step) (g, a)
    (barrier_row h t step is.1) (subst (λ (n : ℕ). outcome h (Thread n) step ≡ Ok (g, a)) is.0 ok)) k
step_goes_on h g t (Worker w) step a is ok k = absurd is

entries_go_on : (h g : HeapState) (t : ℕ) (es : List Entry) → EachIs (IsInBarrier t) es → Leads h es g
    → IsLoading h t → IsLoading g t
entries_go_on h g t [] each leads k = subst (λ (x : HeapState). IsLoading x t) (sym leads) k
entries_go_on h g t (e ∷ es) each leads k = entries_go_on leads.0 g t es each.1 leads.2
    (step_goes_on h leads.0 t e.actor e.step e.answer each.0 leads.1 k)

-- ---- a load ends

ends : (h g : HeapState) (t : ℕ) (a : Answer) → outcome h (Thread t) steps.Finish ≡ Ok (g, a) → IsLoading h t
    → IsApart g t
unfolding outcome
ends h g t a ok k = record {
  phase = subst (λ (f : Phase). is_crossing f ≡ false) (sym closes.0) k.phase;
  runs = record {
    closed = λ u. by_place u (cases_eq u t);
    alone = λ u e. k.alone u (sym (stay.each u).runs ∙ e);
    workers = subst (λ (c : Config). 0 < c.workers) (sym stay.config) k.workers;
  };
}
  where
    stay : AllStay h g
    stay = step_stays h (Thread t) steps.Finish g a refl ok

    closes : (g.phase ≡ h.phase) × (is_loading_in (slice_get g.threads t) ≡ false)
    closes = of_accepted (λ (z : HeapState × Answer). (z.0.phase ≡ h.phase)
        × (is_loading_in (slice_get z.0.threads t) ≡ false)) (outcome h (Thread t) steps.Finish) (g, a)
        (on_bind (thread_gate h t steps.Finish) _ _ (λ u f. finish_closes h t)) ok

    by_place : (u : ℕ) → (u ≡ t) ⊎ (u ≢ t) → is_loading_in (slice_get g.threads u) ≡ false
    by_place u (inl e) = ap (λ (n : ℕ). is_loading_in (slice_get g.threads n)) e ∙ closes.1
    by_place u (inr d) = is_false (is_loading_in (slice_get g.threads u)) (λ e.
        true≢false (sym ((stay.each u).loading e) ∙ k.others u d))

-- ---- no trap is rejected

is_missing : (ts : List ThreadState) (t : ℕ) → is_loading_in (slice_get ts t) ≡ true → nat_le (length ts) t ≡ false
is_missing ts t e = is_false (nat_le (length ts) t) (λ f.
    true≢false (sym e ∙ ap is_loading_in (slice_get_past ts t (leb-true (length ts) t f))))

its_barrier : (o : Option ThreadState) → is_loading_in o ≡ true → (b : Barrier) × (barrier_of o ≡ Some b)
its_barrier None e = absurd (cc)
its_barrier (Some x) e = by_barrier x.barrier e
  where
    by_barrier : (q : Option Barrier) → is_some q ≡ true → (b : Barrier) × (q ≡ Some b)
    by_barrier None f = absurd (cc)
    by_barrier (Some b) f = (b, refl)

never_refused : (h : HeapState) (t : ℕ) (e : Refusal) → IsLoading h t → outcome h (Thread t) steps.Trap ≡ Err e → ⊥
unfolding outcome thread_gate trap_outcome
never_refused h t e k is = by_tests (nat_le (length h.threads) t) (is_missing h.threads t k.inside)
    (is_parked_in (slice_get h.threads t)) k.runs (is_loading_in (slice_get h.threads t)) (barrier_of_thread h t)
    own.1 is
  where
    own : (b : Barrier) × (barrier_of_thread h t ≡ Some b)
    own = its_barrier (slice_get h.threads t) k.inside

    passed : Result (Unit {0}) Refusal
    passed = Ok tt

    by_word : (c : Barrier) (w : Reference) → gc_trap h t c w ≡ Err e → ⊥
    by_word c None f = absurd (cc)
    by_word c (Some w) f = by_phase (is_protect_crossing h.phase) (not_protecting h.phase k.phase) f
      where
        new : Outcome
        new = Ok (with_barrier (copied_first h w.0) t (set_now_of (Some (moved_word h w)) c) counters.Gc, answers.Moved)

        by_phase : (d : Bool) → d ≡ false → cond d (Err refusals.Stall) new ≡ Err e → ⊥
        by_phase true i j = absurd (true≢false i)
        by_phase false i j = absurd (cc)

    marked : Barrier → Outcome
    marked b = Ok (
      with_barrier (with_mark (copied_for h b.now) b.now) t (set_now_of (marked_word (copied_for h b.now) b.now) b)
          counters.Nmt,
      answers.Marked,
    )

    clear : Outcome
    clear = Ok (h, answers.Clear)

    by_mark : (b : Barrier) (c : Bool) → cond c (marked b) clear ≡ Err e → ⊥
    by_mark b true f = absurd (cc)
    by_mark b false f = absurd (cc)

    by_due : (b : Barrier) (c : Bool) → cond c (gc_trap h t b b.now) (nmt_trap h t b) ≡ Err e → ⊥
    by_due b true f = by_word b b.now f
    by_due b false f = by_mark b (nmt_trap_due h t b.now) f

    by_tests : (a : Bool) → a ≡ false → (p : Bool) → p ≡ false → (l : Bool) → (o : Option Barrier) → o ≡ Some own.0
        → ((if a || false then Err refusals.NoActor else (if false then Err refusals.BadIndex else
        (if p && true then Err refusals.Parked else (if l && false then Err refusals.Busy else passed)))) >>= λ u.
        (or_refuse o refusals.NotBusy >>= λ c.
        (if gc_trap_due h t c.now then gc_trap h t c c.now else nmt_trap h t c))) ≡ Err e → ⊥
    by_tests true i p j l o m is = absurd (true≢false i)
    by_tests false i true j l o m is = absurd (true≢false j)
    by_tests false i false j l None m is = absurd (cc)
    by_tests false i false j true (Some c) m is = by_due c (gc_trap_due h t c.now) is
    by_tests false i false j false (Some c) m is = by_due c (gc_trap_due h t c.now) is

-- ---- complete loads

accepted_step : (actor : Actor) (step : Step) (a : Answer) (h g : HeapState) → Steps actor step a h g
    → outcome h actor step ≡ Ok (g, a)
accepted_step actor step a h g k = subst (λ (x : HeapState). outcome h actor step ≡ Ok (x, a)) (sym k.steps.2) k.steps.1

pub load_apart : (h g : HeapState) (t : ℕ) (begin : Step) (r : Result Unit Refusal) → begins_load begin ≡ true
    → LoadsWhole h t begin r g → IsApart h t → IsApart g t
load_apart h g t begin r e k a = by_result r k
  where
    begun : (m : HeapState) → Steps (Thread t) begin answers.Loaded h m → IsLoading m t
    begun m s =
        let ok = accepted_step (Thread t) begin answers.Loaded h m s in
        let z = of_accepted (λ (z : HeapState × Answer). IsRunning h t × Opens h t z.0) (outcome h (Thread t) begin)
        (m, answers.Loaded) (open_row h t begin e) ok in
        begins h m t a z.0 z.1

    by_result : (r : Result Unit Refusal) → LoadsWhole h t begin r g → IsApart g t
    by_result (Ok u) x = ends x.2.0 g t answers.Done
        (accepted_step (Thread t) steps.Finish answers.Done x.2.0 g x.2.2) (entries_go_on x.0 x.2.0 t x.2.1.entries
        x.2.1.each x.2.1.runs.steps (begun x.0 x.1))
    by_result (Err n) (inl x) = subst (λ (y : HeapState). IsApart y t) (sym x.1) a
    by_result (Err n) (inr x) = absurd (never_refused g t n (entries_go_on x.0 g t x.2.0.entries x.2.0.each
        x.2.0.runs.steps (begun x.0 x.1)) x.2.1)
