-- Steps that may fail.
use Rattle.std.specs.Prelude.{◌≡◌, Bool, true, false, Result, Ok, Err, Option, Some, None}
use Rattle.model.specs.declared.steps.Refusal.{Refusal}
use Rattle.model.specs.declared.steps.Refusal.TheVariants as refusals
use Rattle.model.specs.declared.steps.Step.{Step}
use Rattle.model.specs.declared.steps.Step.TheVariants as steps
use Rattle.model.specs.declared.steps.Answer.{Answer}
use Rattle.model.specs.States.{HeapState}

-- the first error is the outcome; else the value is passed on
infixl 10 ◌>>=◌
abbrev pub ◌>>=◌ : {A B : Type 0} → Result A Refusal → (A → Result B Refusal) → Result B Refusal
(Ok x) >>= f = f x
(Err e) >>= f = Err e

-- the value, or this error if there is none
abbrev pub or_refuse : {A : Type 0} → Option A → Refusal → Result A Refusal
or_refuse None e = Err e
or_refuse (Some x) e = Ok x

-- an error if a test is true
abbrev pub refuse_if : Bool → Refusal → Result Unit Refusal
refuse_if true e = Err e
refuse_if false e = Ok tt

-- the state and the answer after a step, or its error
abbrev pub Outcome : Type 0
Outcome = Result (HeapState × Answer) Refusal

-- a call with this result had this outcome; if it failed, nothing changed
abbrev pub Does : HeapState → Result Answer Refusal → HeapState → Outcome → Type 0
Does old (Ok a) new outcome = outcome ≡ Ok (new, a)
Does old (Err e) new outcome = (outcome ≡ Err e) × (new ≡ old)

-- a call had this outcome, or failed with Memory; if it failed, nothing changed
abbrev pub DoesOrLacks : HeapState → Result Answer Refusal → HeapState → Outcome → Type 0
DoesOrLacks old (Err refusals.Memory) new outcome = new ≡ old
DoesOrLacks old result new outcome = Does old result new outcome

-- a call for this step had this outcome; the two steps that open pages may fail with Memory instead
abbrev pub DoesStep : HeapState → Step → Result Answer Refusal → HeapState → Outcome → Type 0
DoesStep old (steps.Take words) result new outcome = DoesOrLacks old result new outcome
DoesStep old (steps.Protect pages) result new outcome = DoesOrLacks old result new outcome
DoesStep old step result new outcome = Does old result new outcome
