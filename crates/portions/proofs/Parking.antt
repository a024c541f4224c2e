-- A thread that is parked, or runs again, among threads that are parked.
use Rattle.std.proofs.Common.{◌≡◌, ◌≢◌, ◌⊎◌, ◌∙◌, ◌<◌, ℕ, Bool, true, false, not, set, length}
use Rattle.std.proofs.Common.{Option, Some, None, nat_le, refl, sym, subst, ap, inl, inr}
use Rattle.std.specs.Prelude.{Result, Ok, Err, ◌&&◌, ◌||◌, if◌then◌else◌}
use Rattle.std.specs.List.{slice_get}
use Rattle.std.proofs.lemmas.Bool.{cases_eq, true≢false, leb-true}
use Rattle.std.proofs.lemmas.Option.{slice_get_past}
use Rattle.model.specs.declared.config.Config.{Config}
use Rattle.model.specs.declared.records.Phase.{Phase}
use Rattle.model.specs.declared.steps.Actor.TheVariants.{Thread}
use Rattle.model.specs.declared.steps.Answer.{Answer}
use Rattle.model.specs.declared.steps.Answer.TheVariants as answers
use Rattle.model.specs.declared.steps.Refusal.{Refusal}
use Rattle.model.specs.declared.steps.Refusal.TheVariants as refusals
use Rattle.model.specs.declared.steps.Step.TheVariants as steps
use Rattle.model.specs.Checkpoints.{with_parked, park_outcome, unpark_outcome}
use Rattle.model.specs.Outcome.{outcome, thread_gate, is_loading_in}
use Rattle.model.specs.Phases.{is_crossing}
use Rattle.model.specs.Refusing.{◌>>=◌, Outcome}
use Rattle.model.specs.Saying.{done}
use Rattle.model.specs.States.{HeapState, ThreadState, change_found}
use Rattle.model.specs.Threads.{is_parked_in, set_parked_of}
use Rattle.model.proofs.Lists.{get_set_same, get_set_other}
use Rattle.refinement.proofs.Accepted.{OnAccepted, of_accepted, on_bind, on_truth}
use Rattle.cycle.specs.Mutating.{DoesThread}
use Rattle.portions.specs.Apart.{IsApart, IsStill, RunsAlone, runs_in}
use Rattle.portions.proofs.Staying.{AllStay}

-- a condition that isn't true is false
pub is_false : (b : Bool) → (b ≡ true → ⊥) → b ≡ false
is_false true f = absurd (f refl)
is_false false f = refl

-- ---- what parking a thread changes

-- if a thread is parked or runs, the others stay as they are
pub record Turns (h : HeapState) (t : ℕ) (b : Bool) (g : HeapState) : Type 0 where
  pub phase : g.phase ≡ h.phase
  pub config : g.config ≡ h.config
  pub loading : (u : ℕ) → is_loading_in (slice_get g.threads u) ≡ is_loading_in (slice_get h.threads u)
  pub others : (u : ℕ) → u ≢ t → runs_in (slice_get g.threads u) ≡ runs_in (slice_get h.threads u)
  pub parked : is_parked_in (slice_get g.threads t) ≡ true → b ≡ true
  pub runs : b ≡ true → runs_in (slice_get g.threads t) ≡ false

turned : (h : HeapState) (t : ℕ) (b : Bool) → Turns h t b (with_parked h t b)
unfolding with_parked
turned h t b = by_thread (slice_get h.threads t) refl
  where
    new : Option ThreadState → HeapState
    new o = record h { threads = change_found h.threads t o (set_parked_of b) }

    there : (x : ThreadState) → slice_get h.threads t ≡ Some x → Turns h t b (new (Some x))
    there x e = record {
      phase = refl;
      config = refl;
      loading = λ u. by_loading u (cases_eq u t);
      others = λ u d. ap runs_in (get_set_other h.threads t u (set_parked_of b x) d);
      parked = λ p. sym (ap is_parked_in same) ∙ p;
      runs = λ p. ap runs_in same ∙ ap not p;
    }
      where
        same : slice_get (set h.threads t (set_parked_of b x)) t ≡ Some (set_parked_of b x)
        same = get_set_same h.threads t x (set_parked_of b x) e

        by_loading : (u : ℕ) → (u ≡ t) ⊎ (u ≢ t) → is_loading_in (slice_get (set h.threads t (set_parked_of b x)) u)
            ≡ is_loading_in (slice_get h.threads u)
        by_loading u (inl i) = subst (λ (n : ℕ). is_loading_in (slice_get (set h.threads t (set_parked_of b x)) n)
            ≡ is_loading_in (slice_get h.threads n)) (sym i) (ap is_loading_in same ∙ sym (ap is_loading_in e))
        by_loading u (inr d) = ap is_loading_in (get_set_other h.threads t u (set_parked_of b x) d)

    missing : slice_get h.threads t ≡ None → Turns h t b h
    missing e = record {
      phase = refl;
      config = refl;
      loading = λ u. refl;
      others = λ u d. refl;
      parked = λ p. absurd (true≢false (sym p ∙ ap is_parked_in e));
      runs = λ p. ap runs_in e;
    }

    by_thread : (o : Option ThreadState) → slice_get h.threads t ≡ o → Turns h t b (new o)
    by_thread None e = missing e
    by_thread (Some x) e = there x e

park_turns : (h : HeapState) (t : ℕ)
    → OnAccepted (λ (z : HeapState × Answer). Turns h t true z.0) (outcome h (Thread t) steps.Park)
unfolding outcome park_outcome
park_turns h t = on_bind (thread_gate h t steps.Park) _ _ (λ u f. turned h t true)

unpark_turns : (h : HeapState) (t : ℕ)
    → OnAccepted (λ (z : HeapState × Answer). Turns h t false z.0) (outcome h (Thread t) steps.Unpark)
unfolding outcome unpark_outcome
unpark_turns h t = on_bind (thread_gate h t steps.Unpark) _ _ (λ u f.
    on_truth (is_parked_in (slice_get h.threads t)) _ _ _ (λ e. turned h t false))

-- ---- why it is rejected

past : (h : HeapState) (t : ℕ) → nat_le (length h.threads) t ≡ true → slice_get h.threads t ≡ None
past h t e = slice_get_past h.threads t (leb-true (length h.threads) t e)

not_running : (o : Option ThreadState) → is_parked_in o ≡ true → runs_in o ≡ false
not_running None e = refl
not_running (Some x) e = ap not e

park_refused : (h : HeapState) (t : ℕ) (e : Refusal) → outcome h (Thread t) steps.Park ≡ Err e
    → is_loading_in (slice_get h.threads t) ≡ false → runs_in (slice_get h.threads t) ≡ false
unfolding outcome thread_gate park_outcome
park_refused h t e is closed = by_tests (nat_le (length h.threads) t) refl (is_parked_in (slice_get h.threads t)) refl
    (is_loading_in (slice_get h.threads t)) closed is
  where
    passed : Result (Unit {0}) Refusal
    passed = Ok tt

    new : Outcome
    new = Ok (with_parked h t true, answers.Done)

    by_tests : (a : Bool) → nat_le (length h.threads) t ≡ a → (p : Bool) → is_parked_in (slice_get h.threads t) ≡ p
        → (l : Bool) → l ≡ false
        → ((if a || false then Err refusals.NoActor else (if false then Err refusals.BadIndex else
        (if p && true then Err refusals.Parked else (if l && true then Err refusals.Busy else passed)))) >>= λ u. new)
        ≡ Err e → runs_in (slice_get h.threads t) ≡ false
    by_tests true i p j l k is = ap runs_in (past h t i)
    by_tests false i true j l k is = not_running (slice_get h.threads t) j
    by_tests false i false j true k is = absurd (true≢false k)
    by_tests false i false j false k is = absurd (cc)

unpark_refused : (h : HeapState) (t : ℕ) (e : Refusal) → outcome h (Thread t) steps.Unpark ≡ Err e
    → is_loading_in (slice_get h.threads t) ≡ false → is_parked_in (slice_get h.threads t) ≡ false
unfolding outcome thread_gate unpark_outcome
unpark_refused h t e is closed = by_tests (nat_le (length h.threads) t) refl (is_parked_in (slice_get h.threads t)) refl
    (is_loading_in (slice_get h.threads t)) closed is
  where
    passed : Result (Unit {0}) Refusal
    passed = Ok tt

    new : Outcome
    new = Ok (with_parked h t false, answers.Done)

    by_tests : (a : Bool) → nat_le (length h.threads) t ≡ a → (p : Bool) → is_parked_in (slice_get h.threads t) ≡ p
        → (l : Bool) → l ≡ false
        → ((if a || false then Err refusals.NoActor else (if false then Err refusals.BadIndex else
        (if p && false then Err refusals.Parked else (if l && true then Err refusals.Busy else passed)))) >>= λ u.
        (if p then new else Err refusals.NotParked)) ≡ Err e → is_parked_in (slice_get h.threads t) ≡ false
    by_tests true i p j l k is = ap is_parked_in (past h t i)
    by_tests false i false j l k is = j
    by_tests false i true j true k is = absurd (true≢false k)
    by_tests false i true j false k is = absurd (cc)

-- ---- one thread among threads that are parked

-- the thread that ran alone is parked
pub park_stills : (h g : HeapState) (t : ℕ) (r : Result Unit Refusal) → DoesThread done h t steps.Park r g
    → IsApart h t → IsStill g
park_stills h g t (Ok u) does k = record {
  phase = subst (λ (f : Phase). is_crossing f ≡ false) (sym z.phase) k.phase;
  closed = λ u. z.loading u ∙ k.runs.closed u;
  parked = λ u. by_place u (cases_eq u t);
  workers = subst (λ (c : Config). 0 < c.workers) (sym z.config) k.runs.workers;
}
  where
    z : Turns h t true g
    z = of_accepted (λ (z : HeapState × Answer). Turns h t true z.0) (outcome h (Thread t) steps.Park)
        (g, answers.Done) (park_turns h t) does

    by_place : (u : ℕ) → (u ≡ t) ⊎ (u ≢ t) → runs_in (slice_get g.threads u) ≡ false
    by_place u (inl e) = ap (λ (n : ℕ). runs_in (slice_get g.threads n)) e ∙ z.runs refl
    by_place u (inr d) = is_false (runs_in (slice_get g.threads u)) (λ e. d (k.runs.alone u (sym (z.others u d) ∙ e)))
park_stills h g t (Err e) does k = subst IsStill (sym does.1) (record {
  phase = k.phase;
  closed = k.runs.closed;
  parked = λ u. is_false (runs_in (slice_get h.threads u)) (λ f. true≢false (sym f
      ∙ (ap (λ (n : ℕ). runs_in (slice_get h.threads n)) (k.runs.alone u f)
      ∙ park_refused h t e does.0 (k.runs.closed t))));
  workers = k.runs.workers;
})

-- if all are parked, none runs but thread t
pub still_apart : (h : HeapState) (t : ℕ) → IsStill h → IsApart h t
still_apart h t k = record {
  phase = k.phase;
  runs = record {
    closed = k.closed;
    alone = λ u e. absurd (true≢false (sym e ∙ k.parked u));
    workers = k.workers;
  };
}

-- a thread runs alone
pub unpark_apart : (h g : HeapState) (t : ℕ) (r : Result Unit Refusal) → DoesThread done h t steps.Unpark r g
    → IsStill h → IsApart g t × (is_parked_in (slice_get g.threads t) ≡ false)
unpark_apart h g t (Ok u) does k = (
  record {
    phase = subst (λ (f : Phase). is_crossing f ≡ false) (sym z.phase) k.phase;
    runs = record {
      closed = λ u. z.loading u ∙ k.closed u;
      alone = λ u e. by_place u e (cases_eq u t);
      workers = subst (λ (c : Config). 0 < c.workers) (sym z.config) k.workers;
    };
  },
  is_false (is_parked_in (slice_get g.threads t)) (λ e. true≢false (sym (z.parked e))),
)
  where
    z : Turns h t false g
    z = of_accepted (λ (z : HeapState × Answer). Turns h t false z.0) (outcome h (Thread t) steps.Unpark)
        (g, answers.Done) (unpark_turns h t) does

    by_place : (u : ℕ) → runs_in (slice_get g.threads u) ≡ true → (u ≡ t) ⊎ (u ≢ t) → u ≡ t
    by_place u e (inl i) = i
    by_place u e (inr d) = absurd (true≢false (sym e ∙ (z.others u d ∙ k.parked u)))
unpark_apart h g t (Err e) does k = subst (λ (x : HeapState). IsApart x t
    × (is_parked_in (slice_get x.threads t) ≡ false)) (sym does.1)
    (still_apart h t k, unpark_refused h t e does.0 (k.closed t))

-- ---- threads that stay

-- if all threads stay, the same one runs alone
pub alone_stays : (h g : HeapState) (t : ℕ) → AllStay h g → RunsAlone h t → RunsAlone g t
alone_stays h g t s k = record {
  closed = λ u. is_false (is_loading_in (slice_get g.threads u)) (λ e.
      true≢false (sym ((s.each u).loading e) ∙ k.closed u));
  alone = λ u e. k.alone u (sym (s.each u).runs ∙ e);
  workers = subst (λ (c : Config). 0 < c.workers) (sym s.config) k.workers;
}

pub apart_stays : (h g : HeapState) (t : ℕ) → AllStay h g → g.phase ≡ h.phase → IsApart h t → IsApart g t
apart_stays h g t s f k = record {
  phase = subst (λ (f : Phase). is_crossing f ≡ false) (sym f) k.phase;
  runs = alone_stays h g t s k.runs;
}
