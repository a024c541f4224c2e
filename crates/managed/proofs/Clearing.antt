-- A load whose trap is clear ends: neither its heal nor its end is rejected. And of three traps one is clear.
use Rattle.std.proofs.Common.{◌≡◌, ◌⊎◌, ◌∙◌, ◌/◌, ℕ, suc, Bool, true, false, not, List, length, Option, Some, None}
use Rattle.std.proofs.Common.{nat_le}
use Rattle.std.proofs.Common.{refl, sym, subst, ap, inl, inr}
use Rattle.std.specs.Prelude.{Result, Ok, Err, if◌then◌else◌, ◌&&◌, ◌||◌}
use Rattle.std.specs.List.{slice_get}
use Rattle.std.proofs.lemmas.Bool.{true≢false, leb-true}
use Rattle.std.proofs.lemmas.Option.{slice_get_past}
use Rattle.model.specs.declared.records.Barrier.{Barrier}
use Rattle.model.specs.declared.records.Counter.{Counter}
use Rattle.model.specs.declared.records.Counter.TheVariants as counters
use Rattle.model.specs.declared.records.Place.{Place}
use Rattle.model.specs.declared.records.Place.TheVariants as places
use Rattle.model.specs.declared.steps.Actor.TheVariants.{Thread}
use Rattle.model.specs.declared.steps.Step.TheVariants as steps
use Rattle.model.specs.declared.steps.Answer.{Answer}
use Rattle.model.specs.declared.steps.Answer.TheVariants as answers
use Rattle.model.specs.declared.steps.Refusal.{Refusal}
use Rattle.model.specs.declared.steps.Refusal.TheVariants as refusals
use Rattle.model.specs.declared.steps.Trap.{Trap}
use Rattle.model.specs.Holding.{IsHeap}
use Rattle.model.specs.Loads.{barrier_of_thread, with_barrier, with_loaded, gc_trap_due, nmt_trap_due, nmt_trap}
use Rattle.model.specs.Loads.{trap_due}
use Rattle.model.specs.Loads.{is_refused, bits_at, are_bits_of, set_healed, set_now_of, heal_place, heal_outcome}
use Rattle.model.specs.Loads.{may_finish}
use Rattle.model.specs.Loads.{end_load, finish_outcome}
use Rattle.model.specs.Marks.{with_mark, marked_word}
use Rattle.model.specs.Moves.{copied_for}
use Rattle.model.specs.Outcome.{outcome, thread_gate, is_loading_in}
use Rattle.model.specs.Owning.{IsStore}
use Rattle.model.specs.Phases.{may_nmt_trap, same_bit, is_protect_crossing}
use Rattle.model.specs.Plain.{PlainHeap}
use Rattle.model.specs.References.{with_place, with_global}
use Rattle.model.specs.Refusing.{◌>>=◌, or_refuse, Outcome}
use Rattle.model.specs.Registers.{let_through, held_back}
use Rattle.model.specs.Saying.{done, healed, trapped}
use Rattle.model.specs.States.{HeapState, ThreadState, Reference, change_at, change_found}
use Rattle.model.specs.Stores.{state_at, page_at, is_protected, with_word, with_words}
use Rattle.model.specs.Threads.{barrier_of, has_crossed, is_parked_in, set_barrier_of}
use Rattle.model.specs.Traps.{trap_outcome, gc_trap}
use Rattle.model.proofs.Lists.{get_set_same}
use Rattle.refinement.specs.Standing.{Holds}
use Rattle.cycle.specs.Loads.{waits_for_heal}
use Rattle.cycle.specs.Mutating.{DoesThread, ThreadStands}
use Rattle.cycle.proofs.Traps.{ClearNext, ClearSoon, outcome_clear}
use Rattle.managed.specs.Goings.{EndsLoad, EndsTrap, IsClear, IsInBarrier, TrapsLeft}
use Rattle.managed.proofs.Going.{goes_none}
use Rattle.managed.proofs.Running.{runs_one}

-- ---- an open load

-- thread t has an open load with this barrier, for whose word no trap is due, and isn't parked
pub record Open (h : HeapState) (t : ℕ) (b : Barrier) : Type 0 where
  pub is : barrier_of_thread h t ≡ Some b
  pub running : is_parked_in (slice_get h.threads t) ≡ false
  pub clear : trap_due h t b.now ≡ false

gate_parts : (r : Result Unit Refusal) (o : Outcome) (x : HeapState × Answer) → r >>= (λ u. o) ≡ Ok x
    → (r ≡ Ok tt) × (o ≡ Ok x)
gate_parts (Ok u) o x e = (refl, e)
gate_parts (Err n) o x e = absurd cc

running_of : (h : HeapState) (t : ℕ) → thread_gate h t steps.Trap ≡ Ok tt → is_parked_in (slice_get h.threads t) ≡ false
unfolding thread_gate
running_of h t e = by_tests (nat_le (length h.threads) t) (is_parked_in (slice_get h.threads t))
    (is_loading_in (slice_get h.threads t)) e
  where
    passed : Result (Unit {0}) Refusal
    passed = Ok tt

    by_tests : (a p l : Bool) → (if a || false then Err refusals.NoActor else (if false then Err refusals.BadIndex else
        (if p && true then Err refusals.Parked else (if l && false then Err refusals.Busy else passed)))) ≡ passed
        → p ≡ false
    by_tests a false l e = refl
    by_tests true true l e = absurd cc
    by_tests false true l e = absurd cc

there_open : (ts : List ThreadState) (t : ℕ) (b : Barrier) → barrier_of (slice_get ts t) ≡ Some b
    → nat_le (length ts) t ≡ false
there_open ts t b e = by_test (nat_le (length ts) t) refl
  where
    none : ◌≡◌ {A = Option Barrier} None (Some b) → ⊥
    none f = absurd cc

    by_test : (x : Bool) → nat_le (length ts) t ≡ x → x ≡ false
    by_test false f = refl
    by_test true f = absurd (none (sym (ap barrier_of (slice_get_past ts t (leb-true (length ts) t f))) ∙ e))

-- the tests before the rows of a load's steps
gate_open : (h : HeapState) (t : ℕ) (b : Barrier) → Open h t b → thread_gate h t steps.Trap ≡ Ok tt
unfolding thread_gate
gate_open h t b k = by_tests (nat_le (length h.threads) t) (is_parked_in (slice_get h.threads t))
    (is_loading_in (slice_get h.threads t)) (there_open h.threads t b k.is) k.running
  where
    passed : Result (Unit {0}) Refusal
    passed = Ok tt

    by_tests : (a p l : Bool) → a ≡ false → p ≡ false
        → (if a || false then Err refusals.NoActor else (if false then Err refusals.BadIndex else
        (if p && true then Err refusals.Parked else (if l && false then Err refusals.Busy else passed)))) ≡ passed
    by_tests false false true e f = refl
    by_tests false false false e f = refl
    by_tests true p l e f = absurd (true≢false e)
    by_tests false true l e f = absurd (true≢false f)

-- ---- a trap that is clear

abbrev allow : HeapState × Answer → Outcome
allow x = Ok x

same_done : (x y : HeapState × Answer) → ◌≡◌ {A = Outcome} (Ok x) (Ok y) → x ≡ y
same_done x y e = cc

moved_is_none : ◌≡◌ {A = Answer} answers.Moved answers.Clear → ⊥
moved_is_none e = absurd (cc)

marked_is_none : ◌≡◌ {A = Answer} answers.Marked answers.Clear → ⊥
marked_is_none e = absurd (cc)

-- a trap that is clear leaves the heap as it was, and none is due
record Cleared (h g : HeapState) (t : ℕ) : Type 0 where
  same : g ≡ h
  barrier : Barrier
  open_load : Open h t barrier

clear_load : (h g : HeapState) (t : ℕ) → outcome h (Thread t) steps.Trap ≡ Ok (g, answers.Clear) → Cleared h g t
unfolding outcome trap_outcome trap_due
clear_load h g t e =
    let parts = gate_parts (thread_gate h t steps.Trap) (trap_outcome h t) (g, answers.Clear) e in
    by_barrier (barrier_of_thread h t) refl (running_of h t parts.0) parts.1
  where
    not_moved : (m : HeapState) → ◌≡◌ {A = Outcome} (Ok (m, answers.Moved)) (Ok (g, answers.Clear)) → ⊥
    not_moved m z = moved_is_none (ap (λ (x : HeapState × Answer). x.1) (same_done _ _ z))

    not_marked : (m : HeapState) → ◌≡◌ {A = Outcome} (Ok (m, answers.Marked)) (Ok (g, answers.Clear)) → ⊥
    not_marked m z = marked_is_none (ap (λ (x : HeapState × Answer). x.1) (same_done _ _ z))

    moves : (m : HeapState) (c : Bool)
        → (if c then Err refusals.Stall else allow (m, answers.Moved)) ≡ allow (g, answers.Clear) → ⊥
    moves m true z = absurd cc
    moves m false z = not_moved m z

    by_now : (b : Barrier) (v : Reference) → gc_trap_due h t v ≡ true → gc_trap h t b v ≡ Ok (g, answers.Clear) → ⊥
    by_now b None due z = true≢false (sym due)
    by_now b (Some w) due z = moves _ (is_protect_crossing h.phase) z

    by_nmt : (b : Barrier) → barrier_of_thread h t ≡ Some b → is_parked_in (slice_get h.threads t) ≡ false
        → gc_trap_due h t b.now ≡ false → (d : Bool) → nmt_trap_due h t b.now ≡ d
        → (if d then allow (
          with_barrier (with_mark (copied_for h b.now) b.now) t (set_now_of (marked_word (copied_for h b.now) b.now) b)
              counters.Nmt,
          answers.Marked,
        )
        else allow (h, answers.Clear)) ≡ allow (g, answers.Clear) → Cleared h g t
    by_nmt b f running free true due z = absurd (not_marked _ z)
    by_nmt b f running free false due z = record {
      same = sym (ap (λ (x : HeapState × Answer). x.0) (same_done (h, answers.Clear) (g, answers.Clear) z));
      barrier = b;
      open_load = record {
        is = f;
        running = running;
        clear = ap (λ x. x || nmt_trap_due h t b.now) free ∙ due;
      };
    }

    by_gc : (b : Barrier) → barrier_of_thread h t ≡ Some b → is_parked_in (slice_get h.threads t) ≡ false → (d : Bool)
        → gc_trap_due h t b.now ≡ d
        → (if d then gc_trap h t b b.now else nmt_trap h t b) ≡ Ok (g, answers.Clear) → Cleared h g t
    by_gc b f running true due z = absurd (by_now b b.now due z)
    by_gc b f running false free z = by_nmt b f running free (nmt_trap_due h t b.now) refl z

    by_barrier : (o : Option Barrier) → barrier_of_thread h t ≡ o → is_parked_in (slice_get h.threads t) ≡ false
        → (or_refuse o refusals.NotBusy >>= λ b.
        (if gc_trap_due h t b.now then gc_trap h t b b.now else nmt_trap h t b)) ≡ Ok (g, answers.Clear) → Cleared h g t
    by_barrier None f running z = absurd cc
    by_barrier (Some b) f running z = by_gc b f running (gc_trap_due h t b.now) refl z

-- ---- a load that is finished

finish_is : (h : HeapState) (t : ℕ) (b : Barrier) → Open h t b → may_finish b ≡ true
    → outcome h (Thread t) steps.Finish ≡ Ok (with_loaded h t b.target b.now, answers.Done)
unfolding outcome thread_gate finish_outcome end_load
finish_is h t b k may =
    ap (λ (r : Result Unit Refusal). r >>= (λ u. finish_outcome h t)) (gate_open h t b k)
    ∙ ap (λ (o : Option Barrier). or_refuse o refusals.NotBusy >>= (λ c.
    if trap_due h t c.now then Err refusals.Busy else end_load h t c)) k.is
    ∙ ap (λ (x : Bool). if x then Err refusals.Busy else end_load h t b) k.clear
    ∙ ap (λ (x : Bool). if x then Ok (with_loaded h t b.target b.now, answers.Done) else Err refusals.Busy) may

never : (x : HeapState × Answer) (e : Refusal) (o : Outcome) → o ≡ Ok x → o ≡ Err e → ⊥
never x e o a b = absurd cc

pub finish_clear : (h g : HeapState) (t : ℕ) (b : Barrier) (result : Result Unit Refusal) → Open h t b
    → may_finish b ≡ true → DoesThread done h t steps.Finish result g → ThreadStands done h t steps.Finish result g
    → EndsLoad h t result g
finish_clear h g t b (Ok u) k may does keeps =
    (h, goes_none (IsInBarrier t) h, runs_one h g (Thread t) steps.Finish answers.Done does keeps)
finish_clear h g t b (Err e) k may does keeps =
    absurd (never _ e (outcome h (Thread t) steps.Finish) (finish_is h t b k may) does.0)

-- ---- a place that is healed

heal_is : (h : HeapState) (t : ℕ) (b : Barrier) → Open h t b
    → outcome h (Thread t) steps.Heal ≡ Ok (heal_place h t b)
unfolding outcome thread_gate heal_outcome
heal_is h t b k =
    ap (λ (r : Result Unit Refusal). r >>= (λ u. heal_outcome h t)) (gate_open h t b k)
    ∙ ap (λ (o : Option Barrier). or_refuse o refusals.NotBusy >>= (λ c.
    if trap_due h t c.now then Err refusals.Busy else Ok (heal_place h t c))) k.is
    ∙ ap (λ (x : Bool). if x then Err refusals.Busy else Ok (heal_place h t b)) k.clear

-- a thread whose barrier is changed has crossed and is parked as before
record Kept (ts us : List ThreadState) (t : ℕ) (c : Barrier) : Type 0 where
  crossed : has_crossed (slice_get us t) ≡ has_crossed (slice_get ts t)
  parked : is_parked_in (slice_get us t) ≡ is_parked_in (slice_get ts t)
  barrier : barrier_of (slice_get us t) ≡ Some c

kept : (ts : List ThreadState) (t : ℕ) (b c : Barrier) (n : Counter) → barrier_of (slice_get ts t) ≡ Some b
    → Kept ts (change_at ts t (set_barrier_of c n)) t c
kept ts t b c n e = by_thread (slice_get ts t) refl e
  where
    by_thread : (o : Option ThreadState) → slice_get ts t ≡ o → barrier_of o ≡ Some b
        → Kept ts (change_found ts t o (set_barrier_of c n)) t c
    by_thread None f k = absurd cc
    by_thread (Some x) f k = let at = get_set_same ts t x (set_barrier_of c n x) f in record {
      crossed = ap has_crossed at ∙ sym (ap has_crossed f);
      parked = ap is_parked_in at ∙ sym (ap is_parked_in f);
      barrier = ap barrier_of at;
    }

-- whether a trap is due for a word, by the states of pages and by whether the thread has crossed
abbrev due_by : HeapState → Bool → Reference → Bool
due_by h crossed None = false
due_by h crossed (Some w) =
    is_refused (if is_protected (state_at h.store (w.0 / h.store.words)) then held_back h.phase crossed else Ok tt)
    || (if may_nmt_trap h.phase crossed then not (same_bit w.1 h.nmt) else false)

due_is : (h : HeapState) (t : ℕ) (v : Reference) → trap_due h t v ≡ due_by h (has_crossed (slice_get h.threads t)) v
unfolding trap_due let_through
due_is h t None = refl
due_is h t (Some w) = refl

-- a heap with a changed barrier, whose pages are in the same states
module _ (h : HeapState) (t : ℕ) (b : Barrier) (k : Open h t b) where
  still : (n : Counter) (v : Reference) → due_by h (has_crossed (slice_get (change_at h.threads t
      (set_barrier_of (set_healed b) n)) t)) v ≡ trap_due h t v
  still n v = ap (λ c. due_by h c v) (kept h.threads t b (set_healed b) n k.is).crossed ∙ sym (due_is h t v)

  plain : (n : Counter) → Open (with_barrier h t (set_healed b) n) t (set_healed b)
  unfolding with_barrier
  plain n = record {
    is = (kept h.threads t b (set_healed b) n k.is).barrier;
    running = (kept h.threads t b (set_healed b) n k.is).parked ∙ k.running;
    clear = due_is (with_barrier h t (set_healed b) n) t b.now ∙ by_now b.now ∙ k.clear;
  }
    where
      by_now : (v : Reference) → due_by (with_barrier h t (set_healed b) n) (has_crossed (slice_get
          (with_barrier h t (set_healed b) n).threads t)) v ≡ trap_due h t v
      by_now None = still n None
      by_now (Some w) = still n (Some w)

  written : (n : Counter) (p : Place) → Open (with_barrier (with_place h p b.now) t (set_healed b) n) t (set_healed b)
  unfolding with_barrier with_global with_word with_words state_at page_at
  written n (places.Field a i) = record {
    is = (kept h.threads t b (set_healed b) n k.is).barrier;
    running = (kept h.threads t b (set_healed b) n k.is).parked ∙ k.running;
    clear = due_is (with_barrier (with_place h (places.Field a i) b.now) t (set_healed b) n) t b.now ∙ by_now b.now
        ∙ k.clear;
  }
    where
      by_now : (v : Reference) → due_by (with_barrier (with_place h (places.Field a i) b.now) t (set_healed b) n)
          (has_crossed
          (slice_get (with_barrier (with_place h (places.Field a i) b.now) t (set_healed b) n).threads t)) v
          ≡ trap_due h t v
      by_now None = still n None
      by_now (Some w) = still n (Some w)
  written n (places.Global g) = record {
    is = (kept h.threads t b (set_healed b) n k.is).barrier;
    running = (kept h.threads t b (set_healed b) n k.is).parked ∙ k.running;
    clear = due_is (with_barrier (with_place h (places.Global g) b.now) t (set_healed b) n) t b.now ∙ by_now b.now
        ∙ k.clear;
  }
    where
      by_now : (v : Reference) → due_by (with_barrier (with_place h (places.Global g) b.now) t (set_healed b) n)
          (has_crossed (slice_get (with_barrier (with_place h (places.Global g) b.now) t (set_healed b) n).threads t)) v
          ≡ trap_due h t v
      by_now None = still n None
      by_now (Some w) = still n (Some w)

  healed_open : Open (heal_place h t b).0 t (set_healed b)
  unfolding heal_place
  healed_open = by_test (are_bits_of (bits_at h b.place) b.raw)
    where
      FirstOpen : HeapState × Answer → Type 0
      FirstOpen x = Open x.0 t (set_healed b)

      by_test : (c : Bool) → FirstOpen (if c
          then (with_barrier (with_place h b.place b.now) t (set_healed b) counters.Healed, answers.Healed)
          else (with_barrier h t (set_healed b) counters.Changed, answers.Changed))
      by_test true = written counters.Healed b.place
      by_test false = plain counters.Changed

  pub heal_clear : (g : HeapState) (v : Bool) → DoesThread healed h t steps.Heal (Ok v) g → Open g t (set_healed b)
  heal_clear g v does = subst (λ (x : HeapState). Open x t (set_healed b))
      (ap (λ (x : HeapState × Answer). x.0) (same_done (heal_place h t b) (g, healed v) (sym (heal_is h t b k) ∙ does)))
      healed_open

  pub heal_never : (g : HeapState) (e : Refusal) → DoesThread healed h t steps.Heal (Err e) g → ⊥
  heal_never g e does = never _ e (outcome h (Thread t) steps.Heal) (heal_is h t b k) does.0

-- ---- what the calls of a load cite

-- thread t's load, whose trap is clear
pub record Clears (h : HeapState) (t : ℕ) : Type 0 where
  pub barrier : Barrier
  pub open_load : Open h t barrier

pub clears : (h : HeapState) (t : ℕ) → IsClear h t → Clears h t
clears h t is =
    let k = clear_load is.0 h t is.1 in
    record { barrier = k.barrier; open_load = subst (λ (x : HeapState). Open x t k.barrier) (sym k.same) k.open_load }

-- no heal is due
pub finishes : (h : HeapState) (t : ℕ) (k : Clears h t) → waits_for_heal (barrier_of_thread h t) ≡ false
    → may_finish k.barrier ≡ true
finishes h t k e = by_test (may_finish k.barrier) (ap waits_for_heal (sym k.open_load.is) ∙ e)
  where
    by_test : (c : Bool) → not c ≡ false → c ≡ true
    by_test true f = refl
    by_test false f = absurd (true≢false f)

-- ---- three traps

pub three_left : (h : HeapState) (p p0 : PlainHeap) (t : ℕ) → IsStore h.store → IsHeap h → Holds h p p0
    → TrapsLeft 3 h t
three_left h p p0 t s d k = λ g a e. soon g a (outcome_clear h p p0 s d k (Thread t) (g, a) e)
  where
    next : (g : HeapState) (a : Answer) → ClearNext (Thread t) (g, a) → (a ≡ answers.Clear) ⊎ TrapsLeft 1 g t
    next g a (inl clear) = inl clear
    next g a (inr (marked, clear)) = inr (λ m c e. inl (clear (m, c) e))

    more : (g : HeapState) (a : Answer) → (a ≡ answers.Clear) ⊎ TrapsLeft 1 g t
        → (a ≡ answers.Clear) ⊎ TrapsLeft 2 g t
    more g a (inl clear) = inl clear
    more g a (inr left) = inr (λ m c e. inl (only m c (left m c e)))
      where
        only : (m : HeapState) (c : Answer) → (c ≡ answers.Clear) ⊎ TrapsLeft 0 m t → c ≡ answers.Clear
        only m c (inl clear) = clear
        only m c (inr none) = absurd none

    soon : (g : HeapState) (a : Answer) → ClearSoon (Thread t) (g, a) → (a ≡ answers.Clear) ⊎ TrapsLeft 2 g t
    soon g a (inl k) = more g a (next g a k)
    soon g a (inr (moved, k)) = inr (λ m c e. next m c (k (m, c) e))

-- behind a trap that was due there is one less
pub trap_less : (n k : ℕ) (h g : HeapState) (t : ℕ) (r : Result Bool Refusal) → k ≡ suc n → TrapsLeft k h t
    → r ≡ Ok false → EndsTrap h t r g → TrapsLeft n g t
trap_less n k h g t r at left is ends =
    by_answer (subst (λ (j : ℕ). TrapsLeft j h t) at left)
    (subst (λ (q : Result Bool Refusal). EndsTrap h t q g) is ends)
  where
    drop_moved : (answers.Moved ≡ answers.Clear) ⊎ TrapsLeft n g t → TrapsLeft n g t
    drop_moved (inl e) = absurd (moved_is_none e)
    drop_moved (inr l) = l

    drop_marked : (answers.Marked ≡ answers.Clear) ⊎ TrapsLeft n g t → TrapsLeft n g t
    drop_marked (inl e) = absurd (marked_is_none e)
    drop_marked (inr l) = l

    by_answer : TrapsLeft (suc n) h t → EndsTrap h t (Ok false) g → TrapsLeft n g t
    by_answer l (inl moved) = drop_moved (l g answers.Moved moved)
    by_answer l (inr marked) = drop_marked (l g answers.Marked marked)

pub none_left : (k : ℕ) (h : HeapState) (t : ℕ) → k ≡ 0 → TrapsLeft k h t → ⊥
none_left k h t e left = subst (λ (j : ℕ). TrapsLeft j h t) e left

-- ---- a trap, told as clear or not

pub trap_told : (h g : HeapState) (t : ℕ) (r : Result Trap Refusal) (v : Trap) → r ≡ Ok v
    → DoesThread trapped h t steps.Trap r g → outcome h (Thread t) steps.Trap ≡ Ok (g, trapped v)
trap_told h g t r v is does = subst (λ (q : Result Trap Refusal). DoesThread trapped h t steps.Trap q g) is does

pub trap_refused : (h g : HeapState) (t : ℕ) (r : Result Trap Refusal) (e : Refusal) → r ≡ Err e
    → DoesThread trapped h t steps.Trap r g → outcome g (Thread t) steps.Trap ≡ Err e
trap_refused h g t r e is does =
    let k = subst (λ (q : Result Trap Refusal). DoesThread trapped h t steps.Trap q g) is does in
    subst (λ (x : HeapState). outcome x (Thread t) steps.Trap ≡ Err e) (sym k.1) k.0
