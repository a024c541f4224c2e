-- Crossings leave a thread as it is that can't cross.
use Rattle.std.proofs.Common.{◌≡◌, ◌≢◌, ◌⊎◌, ◌∙◌, ℕ, zero, suc, ◌+◌, ◌<◌, ◌≤◌, Bool, true, false, cond, not, List}
use Rattle.std.proofs.Common.{[], ◌∷◌, length, Option, Some, None, nat_le, set, refl, sym}
use Rattle.std.proofs.Common.{subst, ap, inl, inr, arith}
use Rattle.std.specs.Prelude.{Result, Ok, Err, if◌then◌else◌, ◌&&◌, ◌||◌}
use Rattle.std.specs.List.{slice_get}
use Rattle.std.proofs.lemmas.Bool.{cases_eq, cases_lt, true≢false, leb-true}
use Rattle.std.proofs.lemmas.Option.{slice_get_past}
use Rattle.model.specs.declared.records.Forwarding.{Forwarding}
use Rattle.model.specs.declared.records.Scan.{Scan}
use Rattle.model.specs.declared.steps.Actor.{Actor}
use Rattle.model.specs.declared.steps.Actor.TheVariants.{Thread, Worker}
use Rattle.model.specs.declared.steps.Step.{Step}
use Rattle.model.specs.declared.steps.Step.TheVariants as steps
use Rattle.model.specs.declared.steps.Answer.{Answer}
use Rattle.model.specs.declared.steps.Answer.TheVariants as answers
use Rattle.model.specs.declared.steps.Refusal.{Refusal}
use Rattle.model.specs.declared.steps.Refusal.TheVariants as refusals
use Rattle.model.specs.Checkpoints.{all_crossed, none_behind, first_behind, with_crossed, with_marked_word}
use Rattle.model.specs.Checkpoints.{with_marked_register, with_marked_registers, marked_at_crossing, cross_thread}
use Rattle.model.specs.Checkpoints.{may_cross, cross_outcome, cross_for_outcome}
use Rattle.model.specs.Marks.{with_mark, marked_word, entry_at}
use Rattle.model.specs.Moves.{with_copy, copied_by, copied_first, copied_for}
use Rattle.model.specs.Outcome.{outcome, worker_gate, thread_gate, is_loading_in}
use Rattle.model.specs.Phases.{is_crossing}
use Rattle.model.specs.Refusing.{◌>>=◌, Outcome, DoesStep}
use Rattle.model.specs.Registers.{register_of, with_register}
use Rattle.model.specs.States.{HeapState, ThreadState, Reference, change_at, change_found}
use Rattle.model.specs.Threads.{has_crossed, is_parked_in, set_crossed_of, set_register_of}
use Rattle.model.proofs.Lists.{get_set_same, get_set_other, position_finds, position_passes}
use Rattle.refinement.proofs.Accepted.{OnAccepted, of_accepted, on_bind, on_test}
use Rattle.entries.specs.declared.entry.Entry.{Entry}
use Rattle.cycle.specs.Mutating.{DoesThread}
use Rattle.model.specs.Saying.{done}
use Rattle.managed.specs.Runs.{Leads}
use Rattle.managed.specs.Goings.{EachIs, Goes, IsCrossing, IsStuck, HasTried, IsBehind, AllTried}

-- ---- copies and marks leave threads and workers

record SameThreads (h g : HeapState) : Type 0 where
  threads : g.threads ≡ h.threads
  workers : g.workers ≡ h.workers

same_none : (h : HeapState) → SameThreads h h
same_none h = record { threads = refl; workers = refl }

copy_same : (h : HeapState) (a to : ℕ) → SameThreads h (with_copy h a to)
unfolding with_copy
copy_same h a to = record { threads = refl; workers = refl }

first_same : (h : HeapState) (a : ℕ) → SameThreads h (copied_first h a)
unfolding copied_first
first_same h a = by_entry (entry_at h a)
  where
    by_test : (b : Bool) (to : ℕ) → SameThreads h (cond b h (with_copy h a to))
    by_test true to = same_none h
    by_test false to = copy_same h a to

    by_entry : (o : Option Forwarding) → SameThreads h (copied_by h a o)
    by_entry None = same_none h
    by_entry (Some f) = by_test f.copied f.to

for_same : (h : HeapState) (v : Reference) → SameThreads h (copied_for h v)
unfolding copied_for
for_same h None = same_none h
for_same h (Some w) = first_same h w.0

-- ---- crossings

-- a thread, which there need not be, has its barrier and stays parked, and has crossed where it had
record Stays (o q : Option ThreadState) : Type 0 where
  loading : is_loading_in q ≡ is_loading_in o
  parked : is_parked_in q ≡ is_parked_in o
  crossed : has_crossed o ≡ true → has_crossed q ≡ true

stays_same : (o : Option ThreadState) → Stays o o
stays_same o = record { loading = refl; parked = refl; crossed = λ e. e }

stays_then : (o q r : Option ThreadState) → Stays o q → Stays q r → Stays o r
stays_then o q r a b = record {
  loading = b.loading ∙ a.loading;
  parked = b.parked ∙ a.parked;
  crossed = λ e. b.crossed (a.crossed e);
}

-- each thread does, and there are as many threads and workers
record AllStay (h g : HeapState) : Type 0 where
  each : (t : ℕ) → Stays (slice_get h.threads t) (slice_get g.threads t)
  workers : g.workers ≡ h.workers

all_same : (h : HeapState) → AllStay h h
all_same h = record { each = λ t. stays_same (slice_get h.threads t); workers = refl }

all_then : (h m g : HeapState) → AllStay h m → AllStay m g → AllStay h g
all_then h m g a b = record {
  each = λ t. stays_then (slice_get h.threads t) (slice_get m.threads t) (slice_get g.threads t) (a.each t) (b.each t);
  workers = b.workers ∙ a.workers;
}

changed_stays : (ts : List ThreadState) (u : ℕ) (f : ThreadState → ThreadState)
    → ((x : ThreadState) → Stays (Some x) (Some (f x))) → (t : ℕ)
    → Stays (slice_get ts t) (slice_get (change_at ts u f) t)
changed_stays ts u f k t = by_place (cases_eq t u)
  where
    here : (o : Option ThreadState) → slice_get ts u ≡ o
        → Stays (slice_get ts u) (slice_get (change_found ts u o f) u)
    here None e = stays_same (slice_get ts u)
    here (Some x) e = subst (λ (o : Option ThreadState). Stays o (slice_get (set ts u (f x)) u)) (sym e)
        (subst (λ (o : Option ThreadState). Stays (Some x) o) (sym (get_set_same ts u x (f x) e)) (k x))

    other : (o : Option ThreadState) → t ≢ u → Stays (slice_get ts t) (slice_get (change_found ts u o f) t)
    other None d = stays_same (slice_get ts t)
    other (Some x) d = subst (λ (o : Option ThreadState). Stays (slice_get ts t) o)
        (sym (get_set_other ts u t (f x) d)) (stays_same (slice_get ts t))

    by_place : (t ≡ u) ⊎ (t ≢ u) → Stays (slice_get ts t) (slice_get (change_at ts u f) t)
    by_place (inl e) = subst (λ (i : ℕ). Stays (slice_get ts i) (slice_get (change_at ts u f) i)) (sym e)
        (here (slice_get ts u) refl)
    by_place (inr d) = other (slice_get ts u) d

register_stays : (h : HeapState) (t r : ℕ) → AllStay h (with_marked_register h t r)
unfolding with_marked_register with_marked_word with_register with_mark
register_stays h t r =
    let k = for_same h (register_of h t r) in
    let v = marked_word (copied_for h (register_of h t r)) (register_of h t r) in
    record {
      each = λ u. subst (λ (ts : List ThreadState). Stays (slice_get ts u)
          (slice_get (change_at (copied_for h (register_of h t r)).threads t (set_register_of r v)) u)) k.threads
          (changed_stays (copied_for h (register_of h t r)).threads t (set_register_of r v)
          (λ x. record { loading = refl; parked = refl; crossed = λ e. e }) u);
      workers = k.workers;
    }

registers_stay : (h : HeapState) (t n : ℕ) → AllStay h (with_marked_registers h t n)
registers_stay h t zero = all_same h
registers_stay h t (suc n) = all_then h (with_marked_registers h t n) (with_marked_registers h t (suc n))
    (registers_stay h t n) (register_stays (with_marked_registers h t n) t n)

crossed_stays : (h : HeapState) (t : ℕ) → AllStay h (with_crossed h t)
unfolding with_crossed
crossed_stays h t = record {
  each = changed_stays h.threads t (set_crossed_of true)
      (λ x. record { loading = refl; parked = refl; crossed = λ e. refl });
  workers = refl;
}

cross_stays : (h : HeapState) (t : ℕ) → AllStay h (cross_thread h t)
unfolding cross_thread
cross_stays h t = all_then h (with_marked_registers h t (marked_at_crossing h)) (cross_thread h t)
    (registers_stay h t (marked_at_crossing h)) (crossed_stays (with_marked_registers h t (marked_at_crossing h)) t)

-- what an accepted crossing has: all threads stay, and a checkpoint was open
record Crossed (h g : HeapState) : Type 0 where
  all : AllStay h g
  was : is_crossing h.phase ≡ true

-- there was a checkpoint to cross
open_row : (h : HeapState) (t : ℕ) → OnAccepted (λ (u : Unit {0}). is_crossing h.phase ≡ true) (may_cross h t)
unfolding may_cross
open_row h t = by_test (is_crossing h.phase) refl
  where
    by_test : (b : Bool) → is_crossing h.phase ≡ b → OnAccepted (λ (u : Unit {0}). is_crossing h.phase ≡ true)
        (cond (not b) (Err refusals.Phase)
        (cond (has_crossed (slice_get h.threads t)) (Err refusals.AlreadyCrossed) (Ok tt)))
    by_test true e = on_test (has_crossed (slice_get h.threads t)) _ _ _ (λ f. e)
    by_test false e = tt

crossing_row : (h : HeapState) (t : ℕ) → OnAccepted (λ (z : HeapState × Answer). Crossed h z.0) (cross_outcome h t)
unfolding cross_outcome
crossing_row h t = on_bind (may_cross h t) _ _ (λ u f. record {
  all = cross_stays h t;
  was = of_accepted (λ (u : Unit {0}). is_crossing h.phase ≡ true) (may_cross h t) u (open_row h t) f;
})

crossing_for_row : (h : HeapState) (t : ℕ)
    → OnAccepted (λ (z : HeapState × Answer). Crossed h z.0) (cross_for_outcome h t)
unfolding cross_for_outcome
crossing_for_row h t = on_test (not (is_parked_in (slice_get h.threads t))) refusals.NotParked (cross_outcome h t)
    (λ (z : HeapState × Answer). Crossed h z.0) (λ e. crossing_row h t)

crossing_crosses : (w : ℕ) (h : HeapState) (actor : Actor) (step : Step) → IsCrossing w actor step
    → OnAccepted (λ (z : HeapState × Answer). Crossed h z.0) (outcome h actor step)
unfolding outcome
crossing_crosses w h (Thread t) steps.Cross is =
    on_bind (thread_gate h t steps.Cross) _ _ (λ u f. crossing_row h t)
crossing_crosses w h (Thread t) _ is = absurd is
crossing_crosses w h (Worker v) (steps.CrossFor t) is =
    on_bind (worker_gate h v (steps.CrossFor t)) _ _ (λ u f. crossing_for_row h t)
crossing_crosses w h (Worker v) _ is = absurd is

-- ---- who is stuck stays so

tried_step : (w : ℕ) (h g : HeapState) (t : ℕ) → Crossed h g → HasTried w h t → HasTried w g t
tried_step w h g t k (inl crossed) = inl ((k.all.each t).crossed crossed)
tried_step w h g t k (inr (inl loading)) = inr (inl ((k.all.each t).loading ∙ loading))
tried_step w h g t k (inr (inr (inl parked))) = inr (inr (inl (
  (k.all.each t).parked ∙ parked.0,
  subst (λ (ws : List (Option Scan)). length ws ≤ w) (sym k.all.workers) parked.1,
)))
tried_step w h g t k (inr (inr (inr closed))) = absurd (true≢false (sym k.was ∙ closed))

tried_entries : (w : ℕ) (h g : HeapState) (t : ℕ) (es : List Entry) → EachIs (IsCrossing w) es → Leads h es g
    → HasTried w h t → HasTried w g t
tried_entries w h g t [] each leads k = subst (λ (x : HeapState). HasTried w x t) (sym leads) k
tried_entries w h g t (e ∷ es) each leads k =
    let one : Crossed h leads.0 = of_accepted (λ (z : HeapState × Answer). Crossed h z.0)
    (outcome h e.actor e.step) (leads.0, e.answer) (crossing_crosses w h e.actor e.step each.0) leads.1 in
    tried_entries w leads.0 g t es each.1 leads.2 (tried_step w h leads.0 t one k)

pub tried_goes : (w : ℕ) (h g : HeapState) (t : ℕ) → Goes (IsCrossing w) h g → HasTried w h t → HasTried w g t
tried_goes w h g t a k = tried_entries w h g t a.entries a.each a.runs.steps k

-- ---- one thread

there_false : (ts : List ThreadState) (t : ℕ) → has_crossed (slice_get ts t) ≡ false → nat_le (length ts) t ≡ false
there_false ts t e = by_test (nat_le (length ts) t) refl
  where
    by_test : (b : Bool) → nat_le (length ts) t ≡ b → b ≡ false
    by_test false f = refl
    by_test true f = absurd (true≢false (sym (ap has_crossed (slice_get_past ts t (leb-true (length ts) t f))) ∙ e))

crossed_here : (ts : List ThreadState) (t : ℕ) → has_crossed (slice_get (change_at ts t (set_crossed_of true)) t) ≡ true
crossed_here ts t = by_thread (slice_get ts t) refl
  where
    by_thread : (o : Option ThreadState) → slice_get ts t ≡ o
        → has_crossed (slice_get (change_found ts t o (set_crossed_of true)) t) ≡ true
    by_thread None e = ap has_crossed e
    by_thread (Some x) e = ap has_crossed (get_set_same ts t x (set_crossed_of true x) e)

has_row : (h : HeapState) (t : ℕ)
    → OnAccepted (λ (z : HeapState × Answer). has_crossed (slice_get z.0.threads t) ≡ true) (cross_outcome h t)
unfolding cross_outcome cross_thread with_crossed
has_row h t = on_bind (may_cross h t) _ _ (λ u f.
    crossed_here (with_marked_registers h t (marked_at_crossing h)).threads t)

has_crossed_by : (h : HeapState) (t : ℕ) → OnAccepted
    (λ (z : HeapState × Answer). has_crossed (slice_get z.0.threads t) ≡ true) (outcome h (Thread t) steps.Cross)
unfolding outcome
has_crossed_by h t = on_bind (thread_gate h t steps.Cross) _ _ (λ u f. has_row h t)

has_crossed_for : (h : HeapState) (w t : ℕ) → OnAccepted
    (λ (z : HeapState × Answer). has_crossed (slice_get z.0.threads t) ≡ true)
    (outcome h (Worker w) (steps.CrossFor t))
unfolding outcome cross_for_outcome
has_crossed_for h w t = on_bind (worker_gate h w (steps.CrossFor t)) _ _ (λ u f.
    on_test (not (is_parked_in (slice_get h.threads t))) refusals.NotParked (cross_outcome h t)
    (λ (z : HeapState × Answer). has_crossed (slice_get z.0.threads t) ≡ true) (λ e. has_row h t))

-- a thread's own crossing is refused
stuck_by : (w : ℕ) (h : HeapState) (t : ℕ) (e : Refusal) → outcome h (Thread t) steps.Cross ≡ Err e
    → has_crossed (slice_get h.threads t) ≡ false → is_parked_in (slice_get h.threads t) ≡ false → IsStuck w h t
unfolding outcome thread_gate cross_outcome may_cross
stuck_by w h t e is behind running = by_tests (nat_le (length h.threads) t) (is_parked_in (slice_get h.threads t))
    (is_loading_in (slice_get h.threads t)) refl (is_crossing h.phase) refl (has_crossed (slice_get h.threads t))
    (there_false h.threads t behind) running behind is
  where
    passed : Result (Unit {0}) Refusal
    passed = Ok tt

    new : Outcome
    new = Ok (cross_thread h t, answers.Done)

    by_tests : (a p l : Bool) → is_loading_in (slice_get h.threads t) ≡ l → (c : Bool) → is_crossing h.phase ≡ c
        → (x : Bool) → a ≡ false → p ≡ false → x ≡ false
        → ((if a || false then Err refusals.NoActor else (if false then Err refusals.BadIndex else
        (if p && true then Err refusals.Parked else (if l && true then Err refusals.Busy else passed)))) >>= λ u.
        (if not c then Err refusals.Phase else (if x then Err refusals.AlreadyCrossed else passed)) >>= λ v.
        new) ≡ Err e → IsStuck w h t
    by_tests true p l i c j x f g k is = absurd (true≢false f)
    by_tests false true l i c j x f g k is = absurd (true≢false g)
    by_tests false false true i c j x f g k is = inl i
    by_tests false false false i false j x f g k is = inr (inr j)
    by_tests false false false i true j true f g k is = absurd (true≢false k)
    by_tests false false false i true j false f g k is = absurd (cc)

-- a worker's crossing for a parked thread is refused
stuck_for : (w : ℕ) (h : HeapState) (t : ℕ) (e : Refusal) → outcome h (Worker w) (steps.CrossFor t) ≡ Err e
    → has_crossed (slice_get h.threads t) ≡ false → is_parked_in (slice_get h.threads t) ≡ true → IsStuck w h t
unfolding outcome worker_gate cross_for_outcome cross_outcome may_cross
stuck_for w h t e is behind parked = by_tests (nat_le (length h.workers) w) refl (nat_le (length h.threads) t)
    (is_parked_in (slice_get h.threads t)) (is_crossing h.phase) refl (has_crossed (slice_get h.threads t))
    (there_false h.threads t behind) parked behind is
  where
    passed : Result (Unit {0}) Refusal
    passed = Ok tt

    new : Outcome
    new = Ok (cross_thread h t, answers.Done)

    by_tests : (a : Bool) → nat_le (length h.workers) w ≡ a → (b p c : Bool) → is_crossing h.phase ≡ c → (x : Bool)
        → b ≡ false → p ≡ true → x ≡ false
        → ((if a || false then Err refusals.NoActor else (if b then Err refusals.BadIndex else passed)) >>= λ u.
        (if not p then Err refusals.NotParked else
        ((if not c then Err refusals.Phase else (if x then Err refusals.AlreadyCrossed else passed)) >>= λ v.
        new))) ≡ Err e → IsStuck w h t
    by_tests true i b p c j x f g k is = inr (inl (parked, leb-true (length h.workers) w i))
    by_tests false i true p c j x f g k is = absurd (true≢false f)
    by_tests false i false false c j x f g k is = absurd (true≢false (sym g))
    by_tests false i false true false j x f g k is = inr (inr j)
    by_tests false i false true true j true f g k is = absurd (true≢false k)
    by_tests false i false true true j false f g k is = absurd (cc)

pub tried_by : (w : ℕ) (h g : HeapState) (t : ℕ) (r : Result Unit Refusal) → DoesThread done h t steps.Cross r g
    → has_crossed (slice_get h.threads t) ≡ false → is_parked_in (slice_get h.threads t) ≡ false → HasTried w g t
tried_by w h g t (Ok u) does behind running =
    inl (of_accepted (λ (z : HeapState × Answer). has_crossed (slice_get z.0.threads t) ≡ true)
    (outcome h (Thread t) steps.Cross) (g, answers.Done) (has_crossed_by h t) does)
tried_by w h g t (Err e) does behind running =
    subst (λ (x : HeapState). HasTried w x t) (sym does.1) (inr (stuck_by w h t e does.0 behind running))

pub tried_for : (w : ℕ) (h g : HeapState) (t : ℕ) (r : Result Answer Refusal)
    → DoesStep h (steps.CrossFor t) r g (outcome h (Worker w) (steps.CrossFor t))
    → has_crossed (slice_get h.threads t) ≡ false → is_parked_in (slice_get h.threads t) ≡ true → HasTried w g t
tried_for w h g t (Ok a) does behind parked =
    inl (of_accepted (λ (z : HeapState × Answer). has_crossed (slice_get z.0.threads t) ≡ true)
    (outcome h (Worker w) (steps.CrossFor t)) (g, a) (has_crossed_for h w t) does)
tried_for w h g t (Err e) does behind parked =
    subst (λ (x : HeapState). HasTried w x t) (sym does.1) (inr (stuck_for w h t e does.0 behind parked))

-- ---- all of them

pub tried_none : (w : ℕ) (h : HeapState) (t : ℕ) → t < 0 → HasTried w h t
tried_none w h t l = absurd (omega (arith, l))

pub tried_more : (w : ℕ) (m g : HeapState) (n : ℕ) → ((t : ℕ) → t < n → HasTried w m t) → Goes (IsCrossing w) m g
    → HasTried w g n → (t : ℕ) → t < n + 1 → HasTried w g t
tried_more w m g n before a one t l = by_place (cases_lt t n)
  where
    by_place : (t < n) ⊎ (n ≤ t) → HasTried w g t
    by_place (inl k) = tried_goes w m g t a (before t k)
    by_place (inr k) = let same : n ≡ t = omega (arith, l, k) in subst (HasTried w g) same one

-- a thread that isn't there counts as one that has crossed
all_tried : (w : ℕ) (h g : HeapState) (n : ℕ) → length h.threads ≡ n → Goes (IsCrossing w) h g
    → ((t : ℕ) → t < n → HasTried w g t) → (t : ℕ) → HasTried w g t
all_tried w h g n many a tried t = by_place (cases_lt t n)
  where
    by_place : (t < n) ⊎ (n ≤ t) → HasTried w g t
    by_place (inl k) = tried t k
    by_place (inr k) = tried_goes w h g t a (inl (ap has_crossed (slice_get_past h.threads t (omega (arith, k, many)))))

behind_at : (w : ℕ) (g : HeapState) (e : Refusal) (o : Option ℕ) → first_behind g.threads ≡ o → none_behind o ≡ Err e
    → ((t : ℕ) → HasTried w g t) → IsBehind w g e
unfolding first_behind
behind_at w g e None at is tried = absurd (cc)
behind_at w g e (Some t) at is tried =
    let (x, there) = position_finds (λ (s : ThreadState). not s.crossed) g.threads t at in
    let passes : not x.crossed ≡ true = position_passes (λ (s : ThreadState). not s.crossed) g.threads t x at there in
    (t, same t e is, by_tried x there passes (tried t))
  where
    same : (t : ℕ) (e : Refusal) → ◌≡◌ {A = Result (Unit {0}) Refusal} (Err (refusals.NotCrossed t)) (Err e)
        → e ≡ refusals.NotCrossed t
    same t e is = cc

    by_tried : (x : ThreadState) → slice_get g.threads t ≡ Some x → not x.crossed ≡ true → HasTried w g t
        → IsStuck w g t
    by_tried x there passes (inr stuck) = stuck
    by_tried x there passes (inl crossed) =
        absurd (true≢false (sym passes ∙ ap not (sym (ap has_crossed there) ∙ crossed)))

pub crossings_behind : (w : ℕ) (h g : HeapState) (n : ℕ) (r : Result Unit Refusal) → length h.threads ≡ n
    → Goes (IsCrossing w) h g → ((t : ℕ) → t < n → HasTried w g t) → r ≡ all_crossed g → AllTried w r g
unfolding all_crossed
crossings_behind w h g n (Ok u) many a tried is = tt
crossings_behind w h g n (Err e) many a tried is =
    behind_at w g e (first_behind g.threads) refl (sym is) (all_tried w h g n many a tried)
