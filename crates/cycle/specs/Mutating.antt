-- Steps of threads by calls that return plain values.
use Rattle.std.specs.Prelude.{ℕ, Result}
use Rattle.model.specs.declared.steps.Actor.{Actor}
use Rattle.model.specs.declared.steps.Actor.TheVariants.{Thread}
use Rattle.model.specs.declared.steps.Step.{Step}
use Rattle.model.specs.declared.steps.Answer.{Answer}
use Rattle.model.specs.declared.steps.Refusal.{Refusal}
use Rattle.model.specs.Refusing.{DoesStep}
use Rattle.model.specs.Saying.{said}
use Rattle.model.specs.Outcome.{outcome}
use Rattle.model.specs.States.{HeapState}
use Rattle.refinement.specs.Standing.{KeepsStanding}

-- a call for a thread's step, whose value represents the answer, has the step's outcome; for Take, which may open a
-- page, it may be out of memory for that, and then it changed nothing
abbrev pub DoesThread : {A : Type 0} → (A → Answer) → HeapState → ℕ → Step → Result A Refusal → HeapState → Type 0
DoesThread answer old t step result new =
    DoesStep old step (said answer result) new (outcome old (Thread t) step)

-- if the heap represented a reference model, it does after the call, whose value is the reference model's
abbrev pub ThreadStands : {A : Type 0} → (A → Answer) → HeapState → ℕ → Step → Result A Refusal → HeapState → Type 0
ThreadStands answer old t step result new = KeepsStanding old (Thread t) step (said answer result) new

-- from this heap, each call that has the outcome of an actor's step keeps what the heap represents
abbrev pub StepsStand : HeapState → Type 0
StepsStand old = (actor : Actor) (step : Step) (result : Result Answer Refusal) (new : HeapState)
    → DoesStep old step result new (outcome old actor step) → KeepsStanding old actor step result new
