-- Parts of a call, one after another, each of which may fail.
use Rattle.std.specs.Prelude.{◌⊎◌, Result, Ok, Err}
use Rattle.model.specs.declared.steps.Actor.{Actor}
use Rattle.model.specs.declared.steps.Step.{Step}
use Rattle.model.specs.declared.steps.Answer.{Answer}
use Rattle.model.specs.declared.steps.Refusal.{Refusal}
use Rattle.model.specs.Outcome.{outcome}
use Rattle.model.specs.Refusing.{DoesStep}
use Rattle.model.specs.States.{HeapState}
use Rattle.managed.specs.Goings.{Steps}

-- P, and then Q, which takes the result of P, as `q(p()?)` does; or one of them failed with e, and nothing more was
-- done
abbrev pub Then : {A B : Type 0} → (HeapState → Result A Refusal → HeapState → Type 0)
    → (A → HeapState → Result B Refusal → HeapState → Type 0) → HeapState → Result B Refusal → HeapState → Type 0
Then {A = A} P Q h (Ok y) g = (m : HeapState) × (x : A) × P h (Ok x) m × Q x m (Ok y) g
Then {A = A} P Q h (Err e) g = P h (Err e) g ⊎ ((m : HeapState) × (x : A) × P h (Ok x) m × Q x m (Err e) g)

-- how one step ended: it was accepted, and preserves what heap h represents; or it is rejected with e, or out of
-- memory, and nothing was done
abbrev pub EndsStep : Actor → Step → HeapState → Result Answer Refusal → HeapState → Type 0
EndsStep actor step h (Ok a) g = Steps actor step a h g
EndsStep actor step h (Err e) g = DoesStep h step (Err e) g (outcome h actor step)
