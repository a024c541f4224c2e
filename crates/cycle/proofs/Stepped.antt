-- The effect of a call for a step, by its reply.
use Rattle.std.proofs.Common.{◌≡◌, ◌⊎◌, inl, inr, refl}
use Rattle.std.specs.Prelude.{Ok, Err}
use Rattle.model.specs.declared.steps.Answer.{Answer}
use Rattle.model.specs.declared.steps.Refusal.{Refusal}
use Rattle.model.specs.declared.steps.Refusal.TheVariants as refusals
use Rattle.model.specs.declared.steps.Step.{Step}
use Rattle.model.specs.declared.steps.Step.TheVariants as steps
use Rattle.model.specs.Refusing.{Outcome, DoesStep}
use Rattle.model.specs.States.{HeapState}

-- an accepted call did what its outcome requires
pub step_accepted : (old new : HeapState) (step : Step) (answer : Answer) (o : Outcome)
    → DoesStep old step (Ok answer) new o → o ≡ Ok (new, answer)
step_accepted old new (steps.Take words) answer o does = does
step_accepted old new (steps.Protect pages) answer o does = does
step_accepted old new _ answer o does = does

-- a rejected call was out of memory or is rejected by the outcome, and changed nothing
pub step_refused : (old new : HeapState) (step : Step) (e : Refusal) (o : Outcome) → DoesStep old step (Err e) new o
    → ((e ≡ refusals.Memory) ⊎ (o ≡ Err e)) × (new ≡ old)
step_refused old new (steps.Take words) refusals.Memory o does = (inl refl, does)
step_refused old new (steps.Take words) _ o does = (inr does.0, does.1)
step_refused old new (steps.Protect pages) refusals.Memory o does = (inl refl, does)
step_refused old new (steps.Protect pages) _ o does = (inr does.0, does.1)
step_refused old new _ e o does = (inr does.0, does.1)
