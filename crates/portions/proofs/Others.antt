-- A portion changes no other thread's registers.
use Rattle.std.proofs.Common.{◌/◌, ◌≡◌, ◌≢◌, ◌∙◌, ◌+◌, ℕ, List, [], ◌∷◌, refl, sym, subst, inl, inr, Option, Some, None}
use Rattle.std.specs.Prelude.{Result, Ok, Err}
use Rattle.std.specs.List.{slice_get}
use Rattle.layout.specs.declared.shape.Layout.{Layout}
use Rattle.model.specs.declared.steps.Actor.{Actor}
use Rattle.model.specs.declared.steps.Actor.TheVariants.{Thread, Worker}
use Rattle.model.specs.declared.steps.Answer.{Answer}
use Rattle.model.specs.declared.steps.Answer.TheVariants as answers
use Rattle.model.specs.declared.steps.Refusal.{Refusal}
use Rattle.model.specs.declared.steps.Step.{Step}
use Rattle.model.specs.declared.steps.Step.TheVariants as steps
use Rattle.model.specs.Outcome.{outcome}
use Rattle.model.specs.Plain.{PlainHeap, PlainThread, Pending, thread_plain, plain_step, add_birth, begin_load}
use Rattle.model.specs.Plain.{finish_pending, store_field, write_datum, name_register, set_name, start_load, end_load}
use Rattle.model.specs.Plain.{name_of, object_of, field_of, pending_in}
use Rattle.model.specs.States.{HeapState, change_at, change_found}
use Rattle.model.proofs.Lists.{get_set_other}
use Rattle.refinement.specs.Standing.{Holds, kept_at_mark}
use Rattle.entries.specs.declared.entry.Entry.{Entry}
use Rattle.cycle.specs.Mutating.{DoesThread, ThreadStands}
use Rattle.cycle.specs.Replays.{Replayed, after_entry, after_entries}
use Rattle.cycle.proofs.Stepped.{step_refused}
use Rattle.managed.specs.declared.batches.FieldLoad.{FieldLoad}
use Rattle.managed.specs.declared.batches.LoadsFault.{LoadsFault}
use Rattle.managed.specs.Batches.{EndsFilling, EndsLoads, fill_steps, fill_test}
use Rattle.managed.specs.Collecting.{StandsUnseen}
use Rattle.managed.specs.Bytes.{EndsWritingBytes}
use Rattle.managed.specs.Data.{EndsCopying, EndsWriting, set_entries}
use Rattle.managed.specs.Goings.{EachIs, EndsLoad, Goes, IsInBarrier, IsScrub, LoadsWhole, StandsForSame, Steps}
use Rattle.managed.specs.Runs.{Runs}
use Rattle.managed.proofs.Going.{quiet_goes}
use Rattle.collecting.specs.Filling.{AfterTest, EndsMakingWith, MakesAndFills}
use Rattle.collecting.specs.Rooms.{MakingStands}
use Rattle.portions.specs.Others.{KeepsOthers, SameOthers}
use Rattle.portions.specs.Portions.{GoesOn, MutatorState}

-- ---- a step of thread t leaves the others of the reference model

other_found : (ts : List PlainThread) (t u : ℕ) (o : Option PlainThread) (f : PlainThread → PlainThread) → u ≢ t
    → slice_get (change_found ts t o f) u ≡ slice_get ts u
other_found ts t u None f n = refl
other_found ts t u (Some x) f n = get_set_other ts t u (f x) n

other_changed : (ts : List PlainThread) (t u : ℕ) (f : PlainThread → PlainThread) → u ≢ t
    → slice_get (change_at ts t f) u ≡ slice_get ts u
other_changed ts t u f n = other_found ts t u (slice_get ts t) f n

named : (p : PlainHeap) (t r : ℕ) (b : Option ℕ) → SameOthers t p (name_register p t r b)
unfolding name_register
named p t r b u n = other_changed p.threads t u (set_name r b) n

born : (p : PlainHeap) (t r number : ℕ) (o : Option Layout) → SameOthers t p (add_birth p t r number o)
unfolding name_register
born p t r number None u n = refl
born p t r number (Some l) u n = other_changed p.threads t u (set_name r (Some _)) n

loading : (p : PlainHeap) (t r : ℕ) (o : Option (Option ℕ)) → SameOthers t p (begin_load p t r o)
loading p t r None u n = refl
loading p t r (Some b) u n = other_changed p.threads t u (start_load r b) n

finished : (p : PlainHeap) (t : ℕ) (o : Option Pending) → SameOthers t p (finish_pending p t o)
finished p t None u n = refl
finished p t (Some l) u n = other_changed p.threads t u (end_load l) n

stored : (p : PlainHeap) (t : ℕ) (o : Option ℕ) (i : ℕ) (b : Option ℕ) → SameOthers t p (store_field p o i b)
stored p t None i b u n = refl
stored p t (Some a) i b u n = refl

written : (p : PlainHeap) (t : ℕ) (o : Option ℕ) (j v : ℕ) → SameOthers t p (write_datum p o j v)
written p t None j v u n = refl
written p t (Some a) j v u n = refl

plain_others : (ls : List Layout) (p : PlainHeap) (t : ℕ) (s : Step) → SameOthers t p (thread_plain ls p t s)
plain_others ls p t (steps.New target layout) = born p t target layout (slice_get ls layout)
plain_others ls p t (steps.Load target object field) =
    loading p t target (field_of (object_of p (name_of p t object)) field)
plain_others ls p t (steps.LoadGlobal target global) = loading p t target (slice_get p.globals global)
plain_others ls p t steps.Finish = finished p t (pending_in (slice_get p.threads t))
plain_others ls p t (steps.Store object field source) = stored p t (name_of p t object) field (name_of p t source)
plain_others ls p t (steps.SetDatum object index value) = written p t (name_of p t object) index value
plain_others ls p t (steps.CopyReg target source) = named p t target (name_of p t source)
plain_others ls p t (steps.ClearReg target) = named p t target None
plain_others ls p t _ = λ u n. refl

-- a step leaves all threads but t
abbrev LeavesOthers : ℕ → Actor → Step → Type 0
LeavesOthers t actor step = (ls : List Layout) (p : PlainHeap) → SameOthers t p (plain_step ls p actor step)

own_leaves : (t : ℕ) (step : Step) → LeavesOthers t (Thread t) step
unfolding plain_step
own_leaves t step ls p = plain_others ls p t step

owned_leaves : (t u : ℕ) (step : Step) → u ≡ t → LeavesOthers t (Thread u) step
owned_leaves t u step e = subst (λ (x : ℕ). LeavesOthers t (Thread x) step) (sym e) (own_leaves t step)

barrier_leaves : (t : ℕ) (actor : Actor) (step : Step) → IsInBarrier t actor step → LeavesOthers t actor step
barrier_leaves t (Thread u) step k = owned_leaves t u step k.0
barrier_leaves t (Worker w) step k = absurd k

-- ---- heaps, one after the other

pub kept_none : (t : ℕ) (h : HeapState) → KeepsOthers t h h
kept_none t h = record { kept = λ p p0 k. (p, p0, k, λ u n. refl) }

pub kept_then : (t : ℕ) (h m g : HeapState) → KeepsOthers t h m → KeepsOthers t m g → KeepsOthers t h g
kept_then t h m g a b = record {
  kept = λ p p0 k.
      let x = a.kept p p0 k in
      let y = b.kept x.0 x.1 x.2 in
      (y.0, y.1, y.2, λ u n. y.3 u n ∙ x.3 u n);
}

kept_same : (t : ℕ) (h g : HeapState) → g ≡ h → KeepsOthers t h g
kept_same t h g e = subst (KeepsOthers t h) (sym e) (kept_none t h)

pub unseen_kept : (t : ℕ) (h g : HeapState) → StandsUnseen h g → KeepsOthers t h g
unseen_kept t h g s = record { kept = λ p p0 k. let y = s.same p p0 k in (p, y.0, y.1, λ u n. refl) }

pub stands_kept : (t : ℕ) (h g : HeapState) → StandsForSame h g → KeepsOthers t h g
stands_kept t h g s = record { kept = λ p p0 k. (p, p0, s.same p p0 k, λ u n. refl) }

-- ---- steps, one after the other

entries_leave : (P : Actor → Step → Type 0) (t : ℕ) → ((a : Actor) (s : Step) → P a s → LeavesOthers t a s)
    → (ls : List Layout) (r : Replayed) (es : List Entry) → EachIs P es
    → SameOthers t r.now (after_entries ls r es).now
entries_leave P t f ls r [] each u n = refl
entries_leave P t f ls r (e ∷ es) each u n =
    entries_leave P t f ls (after_entry ls r e) es each.1 u n ∙ f e.actor e.step each.0 ls r.now u n

runs_kept : (P : Actor → Step → Type 0) (t : ℕ) → ((a : Actor) (s : Step) → P a s → LeavesOthers t a s)
    → (h g : HeapState) (es : List Entry) → EachIs P es → Runs h es g → KeepsOthers t h g
runs_kept P t f h g es each k = record {
  kept = λ p p0 holds.
      let r : Replayed = record { now = p; at_mark = p0 } in
      let q = after_entries h.config.layouts r es in
      (q.now, q.at_mark, (k.stands r holds).holds, entries_leave P t f h.config.layouts r es each);
}

goes_kept : (P : Actor → Step → Type 0) (t : ℕ) → ((a : Actor) (s : Step) → P a s → LeavesOthers t a s)
    → (h g : HeapState) → Goes P h g → KeepsOthers t h g
goes_kept P t f h g k = runs_kept P t f h g k.entries k.each k.runs

-- a step of thread t
abbrev IsOwn : ℕ → Actor → Step → Type 0
IsOwn t (Thread u) step = u ≡ t
IsOwn t (Worker w) step = ⊥

all_own : (t : ℕ) (a : Actor) (s : Step) → IsOwn t a s → LeavesOthers t a s
all_own t (Thread u) s k = owned_leaves t u s k
all_own t (Worker w) s k = absurd k

step_kept : (t : ℕ) (step : Step) (a : Answer) (h g : HeapState) → Steps (Thread t) step a h g → KeepsOthers t h g
step_kept t step a h g k = runs_kept (IsOwn t) t (all_own t) h g _ (refl, tt) k

-- ---- calls

pub does_kept : {A : Type 0} (answer : A → Answer) (h g : HeapState) (t : ℕ) (step : Step) (r : Result A Refusal)
    → DoesThread answer h t step r g → ThreadStands answer h t step r g → KeepsOthers t h g
does_kept answer h g t step (Ok a) does stands = record {
  kept = λ p p0 k. (_, _, (stands p p0 k).stands.holds, own_leaves t step h.config.layouts p);
}
does_kept answer h g t step (Err n) does stands =
    kept_same t h g (step_refused h g step n (outcome h (Thread t) step) does).1

ends_kept : (t : ℕ) (h g : HeapState) (r : Result Unit Refusal) → EndsLoad h t r g → KeepsOthers t h g
ends_kept t h g (Ok u) k = kept_then t h k.0 g (goes_kept (IsInBarrier t) t (barrier_leaves t) h k.0 k.1)
    (step_kept t steps.Finish answers.Done k.0 g k.2)
ends_kept t h g (Err e) k = goes_kept (IsInBarrier t) t (barrier_leaves t) h g k.0

pub load_kept : (h g : HeapState) (t : ℕ) (begin : Step) (r : Result Unit Refusal) → LoadsWhole h t begin r g
    → KeepsOthers t h g
load_kept h g t begin (Ok u) k = kept_then t h k.0 g (step_kept t begin answers.Loaded h k.0 k.1)
    (ends_kept t k.0 g (Ok u) k.2)
load_kept h g t begin (Err e) (inl k) = kept_same t h g k.1
load_kept h g t begin (Err e) (inr k) = kept_then t h k.0 g (step_kept t begin answers.Loaded h k.0 k.1)
    (ends_kept t k.0 g (Err e) k.2)

pub loads_kept : (t object n : ℕ) (ls : List FieldLoad) (h g : HeapState) (r : Result Unit LoadsFault)
    → EndsLoads t object n ls h r g → KeepsOthers t h g
loads_kept t object n [] h g r k = kept_same t h g k.1
loads_kept t object n (l ∷ ls) h g r (inl k) = kept_then t h k.0 g
    (load_kept h k.0 t (steps.Load l.target object l.field) (Ok tt) k.1.0)
    (loads_kept t object (n + 1) ls k.0 g r k.2)
loads_kept t object n (l ∷ ls) h g r (inr k) = load_kept h g t (steps.Load l.target object l.field) (Err k.0) k.1.0

sets_own : (t object j : ℕ) (values : List ℕ) → EachIs (IsOwn t) (set_entries t object j values)
sets_own t object j [] = tt
sets_own t object j (v ∷ vs) = (refl, sets_own t object (j + 1) vs)

pub writes_kept : (t object j : ℕ) (values : List ℕ) (h g : HeapState) (r : Result Unit Refusal)
    → EndsWriting t object j values h r g → KeepsOthers t h g
writes_kept t object j values h g (Ok u) k = runs_kept (IsOwn t) t (all_own t) h g (set_entries t object j values)
    (sets_own t object j values) k
writes_kept t object j values h g (Err e) k = kept_same t h g k.0

pub copies_kept : (t target j source i count : ℕ) (h g : HeapState) (r : Result Unit Refusal)
    → EndsCopying t target j source i count h r g → KeepsOthers t h g
copies_kept t target j source i count h g (Ok u) (values, long, reads, runs) =
    runs_kept (IsOwn t) t (all_own t) h g (set_entries t target j values) (sets_own t target j values) runs
copies_kept t target j source i count h g (Err e) k = kept_same t h g k.0

pub bytes_kept : (t object at : ℕ) (bytes : List ℕ) (h g : HeapState) (r : Result Unit Refusal)
    → EndsWritingBytes t object at bytes h r g → KeepsOthers t h g
bytes_kept t object at bytes h g (Ok u) (old, new, long, reads, is, fits, runs) =
    runs_kept (IsOwn t) t (all_own t) h g (set_entries t object (at / 8) new) (sets_own t object (at / 8) new) runs
bytes_kept t object at bytes h g (Err e) k = kept_same t h g k.0

pub making_kept : (t target layout : ℕ) (h g : HeapState) (r : Result ℕ Refusal) → MakingStands t target layout h r g
    → KeepsOthers t h g
making_kept t target layout h g (Ok b) s = record {
  kept = λ p p0 k.
      let y = s p p0 k in (_, y.0, y.1, own_leaves t (steps.New target layout) h.config.layouts p);
}
making_kept t target layout h g (Err e) s = record { kept = λ p p0 k. let y = s p p0 k in (p, y.0, y.1, λ u n. refl) }

filling_kept : (t : ℕ) (ss : List Step) (h g : HeapState) (r : Result Unit Refusal) → EndsFilling t ss h r g
    → KeepsOthers t h g
filling_kept t [] h g r k = kept_same t h g k.1
filling_kept t (s ∷ ss) h g r (inl k) = kept_then t h k.0 g (step_kept t s answers.Done h k.0 k.1)
    (filling_kept t ss k.0 g r k.2)
filling_kept t (s ∷ ss) h g r (inr k) = kept_same t h g k.3

pub making_with_kept : (t n percent target layout : ℕ) (sources nums : List ℕ) (h g : HeapState)
    (r : Result ℕ Refusal) → EndsMakingWith t n percent target layout sources nums h r g → KeepsOthers t h g
making_with_kept t n percent target layout sources nums h g r k = by_test (fill_test h t target layout sources nums) k
  where
    by_result : (r : Result ℕ Refusal) → MakesAndFills t n percent target layout sources nums h r g
        → KeepsOthers t h g
    by_result (Ok x) y = kept_then t h y.0 g (making_kept t target layout h y.0 (Ok x) y.1.1)
        (filling_kept t (fill_steps target sources nums) y.0 g (Ok tt) y.2)
    by_result (Err e) (inl y) = making_kept t target layout h g (Err e) y.1
    by_result (Err e) (inr y) = kept_then t h y.0 g (making_kept t target layout h y.0 (Ok y.1) y.2.1)
        (filling_kept t (fill_steps target sources nums) y.0 g (Err e) y.3)

    by_test : (x : Result Unit Refusal)
        → AfterTest x (MakesAndFills t n percent target layout sources nums) h r g → KeepsOthers t h g
    by_test (Ok u) y = by_result r y
    by_test (Err e) y = kept_same t h g y.1

-- ---- steps that don't change the reference model

-- a call for a thread's step that doesn't change the reference model
pub does_unseen : {A : Type 0} (answer : A → Answer) (h g : HeapState) (t : ℕ) (step : Step) (r : Result A Refusal)
    → ((ls : List Layout) (p : PlainHeap) → plain_step ls p (Thread t) step ≡ p)
    → DoesThread answer h t step r g → ThreadStands answer h t step r g → StandsUnseen h g
does_unseen answer h g t step (Ok a) quiet does stands = record {
  same = λ p p0 k. (
    kept_at_mark p p0 step,
    subst (λ (q : PlainHeap). Holds g q (kept_at_mark p p0 step)) (quiet h.config.layouts p)
        (stands p p0 k).stands.holds,
  );
}
does_unseen answer h g t step (Err n) quiet does stands =
    subst (StandsUnseen h) (sym (step_refused h g step n (outcome h (Thread t) step) does).1)
    (record { same = λ p p0 k. (p0, k) })

pub parking_unseen : (t : ℕ) (ls : List Layout) (p : PlainHeap) → plain_step ls p (Thread t) steps.Park ≡ p
unfolding plain_step
parking_unseen t ls p = refl

pub unparking_unseen : (t : ℕ) (ls : List Layout) (p : PlainHeap) → plain_step ls p (Thread t) steps.Unpark ≡ p
unfolding plain_step
unparking_unseen t ls p = refl

pub unseen_then : (h m g : HeapState) → StandsUnseen h m → StandsUnseen m g → StandsUnseen h g
unseen_then h m g a b = record { same = λ p p0 k. let x = a.same p p0 k in b.same p x.0 x.1 }

pub same_unseen : (h g : HeapState) → StandsForSame h g → StandsUnseen h g
same_unseen h g s = record { same = λ p p0 k. (p0, s.same p p0 k) }

scrub_quiet : (ls : List Layout) (r : Replayed) (e : Entry) → IsScrub e.actor e.step → after_entry ls r e ≡ r
unfolding plain_step
scrub_quiet ls r e is = by_step e.actor e.step e.answer is
  where
    by_step : (actor : Actor) (step : Step) (a : Answer) → IsScrub actor step
        → after_entry ls r (record { actor = actor; step = step; answer = a }) ≡ r
    by_step (Thread u) (steps.Scrub s) a k = refl
    by_step (Thread u) _ a k = absurd k
    by_step (Worker w) step a k = absurd k

pub scrubs_unseen : (h g : HeapState) → Goes IsScrub h g → StandsUnseen h g
scrubs_unseen h g k = same_unseen h g (quiet_goes IsScrub scrub_quiet h g k)

-- ---- portions

-- a portion of thread t that continues
pub goes_on : (t : ℕ) (h g : HeapState) (m : MutatorState) → record { thread = t; heap = h } ≡ m → KeepsOthers t h g
    → GoesOn m (record { thread = t; heap = g })
goes_on t h g m e k = subst (λ (n : MutatorState). GoesOn n (record { thread = t; heap = g })) e
    (record { thread = refl; others = k })

-- a portion that continues, and then continues
pub goes_on_then : (a b c : MutatorState) → GoesOn a b → GoesOn b c → GoesOn a c
goes_on_then a b c x y = record {
  thread = y.thread ∙ x.thread;
  others = kept_then a.thread a.heap b.heap c.heap x.others
      (subst (λ (t : ℕ). KeepsOthers t b.heap c.heap) x.thread y.others);
}

pub goes_on_none : (a : MutatorState) → GoesOn a a
goes_on_none a = record { thread = refl; others = kept_none a.thread a.heap }
