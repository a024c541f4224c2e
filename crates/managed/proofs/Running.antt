-- Accepted steps preserve what a heap represents, from one to the next.
use Rattle.std.proofs.Common.{◌≡◌, ◌∙◌, ℕ, List, [], ◌∷◌, ◌++◌, refl, sym, subst}
use Rattle.std.specs.Prelude.{Result, Ok, Err}
use Rattle.layout.specs.declared.shape.Layout.{Layout}
use Rattle.model.specs.declared.config.Config.{Config}
use Rattle.model.specs.declared.steps.Actor.{Actor}
use Rattle.model.specs.declared.steps.Actor.TheVariants.{Thread}
use Rattle.model.specs.declared.steps.Step.{Step}
use Rattle.model.specs.declared.steps.Step.TheVariants as steps
use Rattle.model.specs.declared.steps.Answer.{Answer}
use Rattle.model.specs.declared.steps.Refusal.{Refusal}
use Rattle.model.specs.Refusing.{Does, DoesStep}
use Rattle.model.specs.Outcome.{outcome}
use Rattle.model.specs.Saying.{said}
use Rattle.model.specs.States.{HeapState}
use Rattle.model.specs.First.{first_heap}
use Rattle.laws.proofs.Promises.{stands, usable_has_memory}
use Rattle.refinement.specs.Worlds.{world_of}
use Rattle.refinement.specs.PlainHeaps.{births_of}
use Rattle.refinement.specs.Standing.{Holds, FirstHolds, KeepsStanding}
use Rattle.entries.specs.declared.entry.Entry.{Entry}
use Rattle.cycle.specs.Mutating.{DoesThread, StepsStand, ThreadStands}
use Rattle.cycle.specs.Replays.{Replayed, AnswersAre, after_entry, after_entries, before_entries}
use Rattle.cycle.proofs.Stepped.{step_accepted, step_refused}
use Rattle.managed.specs.Runs.{Leads, StandsAfter, Runs}
use Rattle.managed.specs.Managing.{IsManaged, Promises}

-- an entry
abbrev pub entry : Actor → Step → Answer → Entry
entry actor step answer = record { actor = actor; step = step; answer = answer }

after_append : (ls : List Layout) (r : Replayed) (es fs : List Entry)
    → after_entries ls r (es ++ fs) ≡ after_entries ls (after_entries ls r es) fs
after_append ls r [] fs = refl
after_append ls r (e ∷ es) fs = after_append ls (after_entry ls r e) es fs

answers_append : (ls : List Layout) (r : Replayed) (es fs : List Entry) → AnswersAre ls r es
    → AnswersAre ls (after_entries ls r es) fs → AnswersAre ls r (es ++ fs)
answers_append ls r [] fs a b = b
answers_append ls r (e ∷ es) fs a b = (a.0, answers_append ls (after_entry ls r e) es fs a.1 b)

leads_append : (h m g : HeapState) (es fs : List Entry) → Leads h es m → Leads m fs g → Leads h (es ++ fs) g
leads_append h m g [] fs a b = subst (λ (x : HeapState). Leads x fs g) a b
leads_append h m g (e ∷ es) fs a b = (a.0, a.1, leads_append a.0 m g es fs a.2 b)

-- no step
pub runs_none : (h : HeapState) → Runs h [] h
runs_none h = record { steps = refl; stands = λ r k. record { config = refl; holds = k; answers = tt } }

-- steps, and then others
pub runs_then : (h m g : HeapState) (es fs : List Entry) → Runs h es m → Runs m fs g → Runs h (es ++ fs) g
runs_then h m g es fs a b = record {
  steps = leads_append h m g es fs a.steps b.steps;
  stands = λ r k.
      let s : StandsAfter h r es m = a.stands r k in
      let t : StandsAfter m (after_entries h.config.layouts r es) fs g =
      b.stands (after_entries h.config.layouts r es) s.holds in
      let same : Holds g (after_entries h.config.layouts (after_entries h.config.layouts r es) fs).now
      (after_entries h.config.layouts (after_entries h.config.layouts r es) fs).at_mark =
      subst (λ (c : Config). Holds g (after_entries c.layouts (after_entries h.config.layouts r es) fs).now
      (after_entries c.layouts (after_entries h.config.layouts r es) fs).at_mark) s.config t.holds in
      record {
        config = t.config ∙ s.config;
        holds = subst (λ (q : Replayed). Holds g q.now q.at_mark) (sym (after_append h.config.layouts r es fs)) same;
        answers = answers_append h.config.layouts r es fs s.answers
            (subst (λ (c : Config). AnswersAre c.layouts (after_entries h.config.layouts r es) fs) s.config t.answers);
      };
}

-- one step
pub runs_one : (old new : HeapState) (actor : Actor) (step : Step) (answer : Answer)
    → outcome old actor step ≡ Ok (new, answer) → KeepsStanding old actor step (Ok answer) new
    → Runs old (entry actor step answer ∷ []) new
runs_one old new actor step answer is keeps = record {
  steps = (new, is, refl);
  stands = λ r k. let s = (keeps r.now r.at_mark k).stands in
      record { config = s.config; holds = s.holds; answers = (s.answers, tt) };
}

-- a managed heap after accepted steps
pub managed_then : (h g : HeapState) (es : List Entry) → IsManaged h → Runs h es g → IsManaged g
managed_then h g es k b = record {
  config = k.config;
  entries = k.entries ++ es;
  runs = runs_then (first_heap k.config) h g k.entries es k.runs b;
}

-- a managed heap after a step, which may be refused
pub managed_step : (old new : HeapState) (actor : Actor) (step : Step) (result : Result Answer Refusal)
    → DoesStep old step result new (outcome old actor step) → KeepsStanding old actor step result new
    → IsManaged old → IsManaged new
managed_step old new actor step (Ok a) does keeps k =
    managed_then old new (entry actor step a ∷ []) k
    (runs_one old new actor step a (step_accepted old new step a (outcome old actor step) does) keeps)
managed_step old new actor step (Err e) does keeps k =
    subst IsManaged (sym (step_refused old new step e (outcome old actor step) does).1) k

-- a call for a thread's step keeps what a heap represents
pub thread_stands : {A : Type 0} (answer : A → Answer) (old new : HeapState) (t : ℕ) (step : Step)
    (result : Result A Refusal) → DoesThread answer old t step result new → StepsStand old
    → ThreadStands answer old t step result new
thread_stands answer old new t step result does stand = stand (Thread t) step (said answer result) new does

-- a managed heap after a call for a Take
pub managed_take : {A : Type 0} (answer : A → Answer) (old new : HeapState) (t words : ℕ) (result : Result A Refusal)
    → DoesThread answer old t (steps.Take words) result new → ThreadStands answer old t (steps.Take words) result new
    → IsManaged old → IsManaged new
managed_take answer old new t words (Ok a) does keeps k =
    managed_step old new (Thread t) (steps.Take words) (Ok (answer a)) does keeps k
managed_take answer old new t words (Err e) does keeps k =
    managed_step old new (Thread t) (steps.Take words) (Err e) does keeps k

-- and of a call for any other step of a thread
pub managed_thread : {A : Type 0} (answer : A → Answer) (old new : HeapState) (t : ℕ) (step : Step)
    (result : Result A Refusal) → Does old (said answer result) new (outcome old (Thread t) step)
    → ThreadStands answer old t step result new → IsManaged old → IsManaged new
managed_thread answer old new t step (Ok a) does keeps k =
    managed_then old new (entry (Thread t) step (answer a) ∷ []) k
    (runs_one old new (Thread t) step (answer a) does keeps)
managed_thread answer old new t step (Err e) does keeps k = subst IsManaged (sym does.1) k

-- the first heap of a configuration
pub managed_first : (c : Config) (h : HeapState) → h ≡ first_heap c → IsManaged h
managed_first c h e = subst IsManaged (sym e) (record { config = c; entries = []; runs = runs_none (first_heap c) })

-- what is promised of it
pub promises : (h : HeapState) → FirstHolds → IsManaged h → Promises h
unfolding first_heap
promises h first k =
    let c = k.config in
    let es = k.entries in
    let s : StandsAfter (first_heap c) (before_entries c) es h = k.runs.stands (before_entries c) (first c) in
    let holds : Holds h (after_entries h.config.layouts (before_entries h.config) es).now
    (after_entries h.config.layouts (before_entries h.config) es).at_mark =
    subst (λ (d : Config). Holds h (after_entries d.layouts (before_entries d) es).now
    (after_entries d.layouts (before_entries d) es).at_mark) (sym s.config) s.holds in
    let now = births_of (after_entries h.config.layouts (before_entries h.config) es).now in
    let at_mark = births_of (after_entries h.config.layouts (before_entries h.config) es).at_mark in
    record {
      entries = es;
      steps = subst (λ (d : Config). Leads (first_heap d) es h) (sym s.config) k.runs.steps;
      answers = subst (λ (d : Config). AnswersAre d.layouts (before_entries d) es) (sym s.config) s.answers;
      holds = holds;
      stands = stands (world_of h) now at_mark holds.invariant;
      usable = usable_has_memory (world_of h) now at_mark holds.invariant;
    }
