-- No load needs more than three traps: after one that marks, none is due.
use Rattle.std.proofs.Common.{◌≡◌, ◌⊎◌, inl, inr, ℕ, suc, ◌+◌, Bool, true, false, not, Option, Some, None, List, ◌∷◌}
use Rattle.std.proofs.Common.{arith}
use Rattle.std.proofs.Common.{refl, ap, sym, subst, ◌∙◌}
use Rattle.std.specs.List.{slice_get}
use Rattle.std.specs.Prelude.{Result, Ok, Err, if◌then◌else◌}
use Rattle.std.proofs.lemmas.Option.{same_Some}
use Rattle.model.specs.declared.records.Barrier.{Barrier}
use Rattle.model.specs.declared.records.Counter.{Counter}
use Rattle.model.specs.declared.records.Counter.TheVariants as counters
use Rattle.model.specs.declared.records.Forwarding.{Forwarding}
use Rattle.model.specs.declared.steps.Actor.{Actor}
use Rattle.model.specs.declared.steps.Actor.TheVariants.{Thread, Worker}
use Rattle.model.specs.declared.steps.Step.TheVariants as steps
use Rattle.model.specs.declared.steps.Answer.{Answer}
use Rattle.model.specs.declared.steps.Answer.TheVariants as answers
use Rattle.model.specs.declared.steps.Refusal.{Refusal}
use Rattle.model.specs.declared.steps.Refusal.TheVariants as refusals
use Rattle.model.specs.Phases.{may_nmt_trap, same_bit, is_protect_crossing}
use Rattle.model.specs.Owning.{IsStore}
use Rattle.model.specs.Holding.{IsHeap}
use Rattle.model.specs.States.{HeapState, ThreadState, Reference, change_at, change_found}
use Rattle.model.specs.Threads.{set_barrier_of, barrier_of, has_crossed}
use Rattle.model.specs.Marks.{entry_at, with_mark, marked_word}
use Rattle.model.specs.Loads.{barrier_of_thread, with_barrier, set_now_of, gc_trap_due, nmt_trap_due, nmt_trap}
use Rattle.model.specs.Moves.{with_copy, copied_by, copied_first, copied_for, moved_word}
use Rattle.model.specs.Traps.{gc_trap, trap_outcome}
use Rattle.model.specs.Plain.{PlainHeap}
use Rattle.model.specs.Refusing.{◌>>=◌, or_refuse, Outcome}
use Rattle.model.specs.Outcome.{outcome, thread_gate, thread_row, worker_gate, worker_row}
use Rattle.model.proofs.Lists.{get_set_same}
use Rattle.refinement.specs.Standing.{Holds}
use Rattle.refinement.proofs.Steps.{step_holds}
use Rattle.refinement.proofs.Traps.{marked_free, moved_free}
use Rattle.cycle.specs.Books.{BookState, BookOutcome, act_outcome, enter_accepted, is_full}
use Rattle.cycle.specs.Loads.{Told, tell, step_then, ThreeTrapsServe}
use Rattle.cycle.specs.Replays.{replayed}
use Rattle.cycle.proofs.WholeLoads.{after_trap, trapped_next}

gate_passed : (r : Result Unit Refusal) (o : Outcome) (x : HeapState × Answer) → r >>= (λ u. o) ≡ Ok x → o ≡ Ok x
gate_passed (Ok u) o x e = e
gate_passed (Err n) o x e = absurd cc

same_outcome : (x y : HeapState × Answer) → ◌≡◌ {A = Outcome} (Ok x) (Ok y) → x ≡ y
same_outcome x y e = cc

abbrev allow : HeapState × Answer → Outcome
allow x = Ok x

-- a barrier that is changed is there
barrier_there : (threads : List ThreadState) (t : ℕ) (b c : Barrier) (n : Counter) → barrier_of (slice_get threads t)
    ≡ Some b
    → barrier_of (slice_get (change_at threads t (set_barrier_of c n)) t) ≡ Some c
barrier_there threads t b c n e = by_thread (slice_get threads t) refl e
  where
    by_thread : (o : Option ThreadState) → slice_get threads t ≡ o → barrier_of o ≡ Some b
        → barrier_of (slice_get (change_found threads t o (set_barrier_of c n)) t) ≡ Some c
    by_thread None f k = absurd cc
    by_thread (Some x) f k = ap barrier_of (get_set_same threads t x (set_barrier_of c n x) f)

-- an object that is copied leaves the threads
first_threads : (h : HeapState) (a : ℕ) → (copied_first h a).threads ≡ h.threads
unfolding copied_first with_copy
first_threads h a = by_entry (entry_at h a)
  where
    by_entry : (o : Option Forwarding) → (copied_by h a o).threads ≡ h.threads
    by_entry None = refl
    by_entry (Some f) = by_copied f.copied
      where
        by_copied : (b : Bool) → (if b then h else with_copy h a f.to).threads ≡ h.threads
        by_copied true = refl
        by_copied false = refl

for_threads : (h : HeapState) (v : Reference) → (copied_for h v).threads ≡ h.threads
unfolding copied_for
for_threads h None = refl
for_threads h (Some w) = first_threads h w.0

-- the heap after the reference in a barrier is marked, at its object's current place
abbrev marked_now : HeapState → ℕ → Barrier → HeapState
marked_now h t b = with_barrier (with_mark h b.now) t (set_now_of (marked_word h b.now) b) counters.Nmt

-- the heap after an NMT trap
abbrev marked_heap : HeapState → ℕ → Barrier → HeapState
marked_heap h t b = marked_now (copied_for h b.now) t b

-- no NMT trap is due for a reference that is marked
never_due : (h : HeapState) (t : ℕ) (b : Barrier) → nmt_trap_due (marked_now h t b) t (marked_word h b.now) ≡ false
unfolding with_barrier with_mark marked_word
never_due h t b = by_word b.now
  where
    clean : (c n : Bool) → (if c then not (same_bit n n) else false) ≡ false
    clean true true = refl
    clean true false = refl
    clean false n = refl

    by_word : (v : Reference) → nmt_trap_due (marked_now h t b) t (marked_word h v) ≡ false
    by_word None = refl
    by_word (Some w) = clean (may_nmt_trap (marked_now h t b).phase (has_crossed (slice_get
        (marked_now h t b).threads t)))
        h.nmt

-- a trap for which no GC trap is due is an NMT trap or clear
unguarded : (h : HeapState) (t : ℕ) (b : Barrier) (y : HeapState × Answer) → barrier_of_thread h t ≡ Some b
    → gc_trap_due h t b.now ≡ false → trap_outcome h t ≡ Ok y → nmt_trap h t b ≡ Ok y
unfolding trap_outcome
unguarded h t b y first free e = by_barrier (barrier_of_thread h t) first e
  where
    by_barrier : (o : Option Barrier) → o ≡ Some b → (or_refuse o refusals.NotBusy >>= λ d.
        (if gc_trap_due h t d.now then gc_trap h t d d.now else nmt_trap h t d)) ≡ Ok y → nmt_trap h t b ≡ Ok y
    by_barrier None k z = absurd cc
    by_barrier (Some d) k z = by_due (gc_trap_due h t b.now) free (subst (λ (x : Barrier).
        (if gc_trap_due h t x.now then gc_trap h t x x.now else nmt_trap h t x) ≡ Ok y) (same_Some d b k) z)
      where
        by_due : (c : Bool) → c ≡ false → (if c then gc_trap h t b b.now else nmt_trap h t b) ≡ Ok y
            → nmt_trap h t b ≡ Ok y
        by_due true f z = absurd cc
        by_due false f z = z

-- an NMT trap that isn't due is clear
clear_by : (h : HeapState) (t : ℕ) (b : Barrier) (y : HeapState × Answer) → nmt_trap_due h t b.now ≡ false
    → nmt_trap h t b ≡ Ok y → y.1 ≡ answers.Clear
clear_by h t b y free e = by_due (nmt_trap_due h t b.now) free e
  where
    by_due : (d : Bool) → d ≡ false
        → (if d then allow (marked_heap h t b, answers.Marked) else allow (h, answers.Clear)) ≡ allow y
        → y.1 ≡ answers.Clear
    by_due true k z = absurd cc
    by_due false k z = sym (ap (λ (x : HeapState × Answer). x.1) (same_outcome (h, answers.Clear) y z))

-- after an NMT trap, a trap is clear
clear_behind : (h : HeapState) (p p0 : PlainHeap) (t : ℕ) (b : Barrier) → Holds h p p0 → barrier_of_thread h t ≡ Some b
    → gc_trap_due h t b.now ≡ false → nmt_trap_due h t b.now ≡ true → (y : HeapState × Answer)
    → trap_outcome (marked_heap h t b) t ≡ Ok y → y.1 ≡ answers.Clear
unfolding with_barrier with_mark
clear_behind h p p0 t b k first free due y f =
    let g = copied_for h b.now in
    let c : Barrier = set_now_of (marked_word g b.now) b in
    let there : barrier_of (slice_get g.threads t) ≡ Some b =
    ap (λ ts. barrier_of (slice_get ts t)) (for_threads h b.now) ∙ first in
    clear_by (marked_heap h t b) t c y (never_due g t b)
    (unguarded (marked_heap h t b) t c y (barrier_there g.threads t b c counters.Nmt there)
    (marked_free k t b c free due) f)

-- a trap is clear, or marks and the next one is clear
abbrev pub ClearNext : Actor → HeapState × Answer → Type 0
ClearNext actor x = (x.1 ≡ answers.Clear)
    ⊎ ((x.1 ≡ answers.Marked)
    × ((y : HeapState × Answer) → outcome x.0 actor steps.Trap ≡ Ok y → y.1 ≡ answers.Clear))

-- or it corrects the reference, and the next one is clear or marks as above
abbrev pub ClearSoon : Actor → HeapState × Answer → Type 0
ClearSoon actor x = ClearNext actor x
    ⊎ ((x.1 ≡ answers.Moved)
    × ((y : HeapState × Answer) → outcome x.0 actor steps.Trap ≡ Ok y → ClearNext actor y))

-- an NMT trap, or none
nmt_soon : (h : HeapState) (p p0 : PlainHeap) (t : ℕ) (b : Barrier) (x : HeapState × Answer) → Holds h p p0
    → barrier_of_thread h t ≡ Some b → gc_trap_due h t b.now ≡ false → nmt_trap h t b ≡ Ok x → ClearNext (Thread t) x
unfolding outcome
nmt_soon h p p0 t b x k first free e = by_due (nmt_trap_due h t b.now) refl e
  where
    by_due : (d : Bool) → nmt_trap_due h t b.now ≡ d
        → (if d then allow (marked_heap h t b, answers.Marked) else allow (h, answers.Clear)) ≡ allow x
        → ClearNext (Thread t) x
    by_due true due z = subst (ClearNext (Thread t)) (same_outcome (marked_heap h t b, answers.Marked) x z)
        (inr (
          refl,
          λ y f. clear_behind h p p0 t b k first free due y (gate_passed (thread_gate (marked_heap h t b) t steps.Trap)
              (thread_row (marked_heap h t b) t steps.Trap) y f),
        ))
    by_due false due z = inl (sym (ap (λ (x : HeapState × Answer). x.1) (same_outcome (h, answers.Clear) x z)))

thread_there : (h : HeapState) (t : ℕ) (b : Barrier) → barrier_of_thread h t ≡ Some b
    → (x : ThreadState) × (slice_get h.threads t ≡ Some x)
thread_there h t b e = by_thread (slice_get h.threads t) refl e
  where
    by_thread : (o : Option ThreadState) → slice_get h.threads t ≡ o → barrier_of o ≡ Some b
        → (x : ThreadState) × (slice_get h.threads t ≡ Some x)
    by_thread None f k = absurd cc
    by_thread (Some x) f k = (x, f)

module _ (h : HeapState) (p p0 : PlainHeap) (s : IsStore h.store) (d : IsHeap h) (k : Holds h p p0) where
  -- a GC trap
  gc_soon : (t : ℕ) (b : Barrier) (x : HeapState × Answer) → barrier_of_thread h t ≡ Some b
      → gc_trap_due h t b.now ≡ true → outcome h (Thread t) steps.Trap ≡ Ok x → gc_trap h t b b.now ≡ Ok x
      → ClearSoon (Thread t) x
  unfolding outcome with_barrier
  gc_soon t b x first due is e = by_now b.now refl e
    where
      behind_it : (w : ℕ × Bool) → b.now ≡ Some w
          → (with_barrier (copied_first h w.0) t (set_now_of (Some (moved_word h w)) b) counters.Gc, answers.Moved) ≡ x
          → ClearSoon (Thread t) x
      behind_it w now z =
          let c : Barrier = set_now_of (Some (moved_word h w)) b in
          let there = thread_there h t b first in
          let held = step_holds h p p0 (Thread t) steps.Trap x.0 x.1 s d k is in
          let heap : with_barrier (copied_first h w.0) t c counters.Gc ≡ x.0 = ap (λ (y : HeapState × Answer). y.0) z in
          let at : barrier_of_thread x.0 t ≡ Some c = subst (λ g. barrier_of_thread g t ≡ Some c) heap
          (barrier_there (copied_first h w.0).threads t b c counters.Gc
          (ap (λ ts. barrier_of (slice_get ts t)) (first_threads h w.0) ∙ first)) in
          let free : gc_trap_due x.0 t c.now ≡ false = subst (λ g. gc_trap_due g t c.now ≡ false) heap
          (moved_free s d k t there.0 there.1 b c w first now due) in
          inr (
            sym (ap (λ (y : HeapState × Answer). y.1) z),
            λ y f. nmt_soon x.0 _ _ t c y held.holds at free (unguarded x.0 t c y at free
                (gate_passed (thread_gate x.0 t steps.Trap) (thread_row x.0 t steps.Trap) y f)),
          )

      by_now : (v : Reference) → b.now ≡ v → gc_trap h t b v ≡ Ok x → ClearSoon (Thread t) x
      by_now None f z = absurd (let k : gc_trap_due h t None ≡ true = subst (λ v. gc_trap_due h t v ≡ true) f due in cc)
      by_now (Some w) f z = by_phase (is_protect_crossing h.phase) z
        where
          by_phase : (c : Bool) → (if c then Err refusals.Stall else allow
              (with_barrier (copied_first h w.0) t (set_now_of (Some (moved_word h w)) b) counters.Gc, answers.Moved))
              ≡ Ok x
              → ClearSoon (Thread t) x
          by_phase true z = absurd cc
          by_phase false z = behind_it w f (same_outcome _ x z)

  pub outcome_clear : (actor : Actor) (x : HeapState × Answer) → outcome h actor steps.Trap ≡ Ok x → ClearSoon actor x
  unfolding outcome trap_outcome
  outcome_clear (Worker w) x e =
      absurd (let z = gate_passed (worker_gate h w steps.Trap) (worker_row h w steps.Trap) x e in cc)
  outcome_clear (Thread t) x e = by_barrier (barrier_of_thread h t) refl
      (gate_passed (thread_gate h t steps.Trap) (thread_row h t steps.Trap) x e)
    where
      by_gc : (b : Barrier) → barrier_of_thread h t ≡ Some b → (d : Bool) → gc_trap_due h t b.now ≡ d
          → (if d then gc_trap h t b b.now else nmt_trap h t b) ≡ Ok x → ClearSoon (Thread t) x
      by_gc b f true due z = gc_soon t b x f due e z
      by_gc b f false free z = inl (nmt_soon h p p0 t b x k f free z)

      by_barrier : (o : Option Barrier) → barrier_of_thread h t ≡ o → (or_refuse o refusals.NotBusy >>= λ b.
          (if gc_trap_due h t b.now then gc_trap h t b b.now else nmt_trap h t b)) ≡ Ok x → ClearSoon (Thread t) x
      by_barrier None f z = absurd cc
      by_barrier (Some b) f z = by_gc b f (gc_trap_due h t b.now) refl z

-- the same for recorded heaps

same_acted : (x y : BookState × Answer) → ◌≡◌ {A = BookOutcome} (Ok x) (Ok y) → x ≡ y
same_acted x y e = cc

-- a step of a recorded heap did to its heap what the heap's step does
acted_heap : (b : BookState) (actor : Actor) (y : BookState × Answer) → act_outcome b actor steps.Trap ≡ Ok y
    → outcome b.heap actor steps.Trap ≡ Ok (y.0.heap, y.1)
unfolding act_outcome
acted_heap b actor y e = by_full (is_full b) e
  where
    by_outcome : (o : Outcome) → enter_accepted b actor steps.Trap o ≡ Ok y → o ≡ Ok (y.0.heap, y.1)
    by_outcome (Ok x) f = ap (λ (z : BookState × Answer). Ok (z.0.heap, z.1)) (same_acted _ y f)
    by_outcome (Err n) f = absurd cc

    by_full : (full : Bool) → (if full then Err refusals.HistoryFull else enter_accepted b actor steps.Trap
        (outcome b.heap actor steps.Trap)) ≡ Ok y → outcome b.heap actor steps.Trap ≡ Ok (y.0.heap, y.1)
    by_full true f = absurd cc
    by_full false f = by_outcome (outcome b.heap actor steps.Trap) f

pub stepped_same : (b : BookState) (o : BookOutcome) (f g : BookState → Answer → Told)
    → ((c : BookState) (a : Answer) → o ≡ Ok (c, a) → f c a ≡ g c a) → step_then b o f ≡ step_then b o g
unfolding step_then
stepped_same b (Ok x) f g same =
    ap (λ (t : Told). tell t.book (Ok x.1 ∷ t.replies)) (same x.0 x.1 refl)
stepped_same b (Err e) f g same = refl

after_clear : (n m : ℕ) (due : Bool) (actor : Actor) (c : BookState) (a : Answer) → a ≡ answers.Clear
    → after_trap n due actor c a ≡ after_trap m due actor c a
after_clear n m due actor c a e = rw e refl

after_marked : (n m : ℕ) (due : Bool) (actor : Actor) (c : BookState) (a : Answer) → a ≡ answers.Marked
    → ((y : HeapState × Answer) → outcome c.heap actor steps.Trap ≡ Ok y → y.1 ≡ answers.Clear)
    → after_trap (suc n) due actor c a ≡ after_trap (suc m) due actor c a
after_marked n m due actor c a e clear = ap (after_trap (suc n) due actor c) e
    ∙ trapped_next (suc n) n true c actor refl
    ∙ stepped_same c (act_outcome c actor steps.Trap) (after_trap n true actor) (after_trap m true actor)
    (λ d o f. after_clear n m true actor d o (clear (d.heap, o) (acted_heap c actor (d, o) f)))
    ∙ sym (trapped_next (suc m) m true c actor refl)
    ∙ sym (ap (after_trap (suc m) due actor c) e)

after_next : (n m : ℕ) (due : Bool) (actor : Actor) (c : BookState) (a : Answer) → ClearNext actor (c.heap, a)
    → after_trap (suc n) due actor c a ≡ after_trap (suc m) due actor c a
after_next n m due actor c a (inl e) = after_clear (suc n) (suc m) due actor c a e
after_next n m due actor c a (inr (e, clear)) = after_marked n m due actor c a e clear

after_soon : (n m : ℕ) (due : Bool) (actor : Actor) (c : BookState) (a : Answer) → ClearSoon actor (c.heap, a)
    → after_trap (suc (suc n)) due actor c a ≡ after_trap (suc (suc m)) due actor c a
after_soon n m due actor c a (inl soon) = after_next (suc n) (suc m) due actor c a soon
after_soon n m due actor c a (inr (e, next)) = ap (after_trap (suc (suc n)) due actor c) e
    ∙ trapped_next (suc (suc n)) (suc n) true c actor refl
    ∙ stepped_same c (act_outcome c actor steps.Trap) (after_trap (suc n) true actor) (after_trap (suc m) true actor)
    (λ d o f. after_next n m true actor d o (next (d.heap, o) (acted_heap c actor (d, o) f)))
    ∙ sym (trapped_next (suc (suc m)) (suc m) true c actor refl)
    ∙ sym (ap (after_trap (suc (suc m)) due actor c) e)

pub three_traps_serve : ThreeTrapsServe
three_traps_serve b k due actor more =
    let left : 3 + more ≡ suc (suc (suc more)) = omega arith in
    trapped_next (3 + more) (suc (suc more)) due b actor left
    ∙ stepped_same b (act_outcome b actor steps.Trap) (after_trap (suc (suc more)) due actor)
    (after_trap (suc (suc 0)) due actor) (λ c a e. after_soon more 0 due actor c a
    (outcome_clear b.heap (replayed b).now (replayed b).at_mark k.store k.heap k.holds actor (c.heap, a)
    (acted_heap b actor (c, a) e)))
    ∙ sym (trapped_next 3 2 due b actor refl)
