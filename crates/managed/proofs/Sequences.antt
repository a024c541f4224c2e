-- Parts of a call, one after another, each of which may fail.
use Rattle.std.proofs.Common.{◌≡◌, [], ◌∷◌, sym, subst, inl, inr}
use Rattle.std.specs.Prelude.{Result, Ok, Err}
use Rattle.model.specs.declared.steps.Actor.{Actor}
use Rattle.model.specs.declared.steps.Step.{Step}
use Rattle.model.specs.declared.steps.Answer.{Answer}
use Rattle.model.specs.declared.steps.Refusal.{Refusal}
use Rattle.model.specs.Outcome.{outcome}
use Rattle.model.specs.Refusing.{DoesStep}
use Rattle.model.specs.States.{HeapState}
use Rattle.refinement.specs.Standing.{KeepsStanding}
use Rattle.cycle.proofs.Stepped.{step_accepted, step_refused}
use Rattle.managed.specs.Goings.{Goes, Steps}
use Rattle.managed.specs.Sequences.{Then, EndsStep}
use Rattle.managed.proofs.Going.{goes_none, goes_then}
use Rattle.managed.proofs.Running.{runs_one}

-- ---- one step

-- a call for a step
pub step_ends : (actor : Actor) (step : Step) (h g : HeapState) (result : Result Answer Refusal)
    → DoesStep h step result g (outcome h actor step) → KeepsStanding h actor step result g
    → EndsStep actor step h result g
step_ends actor step h g (Ok a) does keeps =
    runs_one h g actor step a (step_accepted h g step a (outcome h actor step) does) keeps
step_ends actor step h g (Err e) does keeps = does

-- it is such a step, or none
pub step_goes : (T : Actor → Step → Type 0) (actor : Actor) (step : Step) → T actor step → (h g : HeapState)
    (result : Result Answer Refusal) → EndsStep actor step h result g → Goes T h g
step_goes T actor step is h g (Ok a) k = record {
  entries = record { actor = actor; step = step; answer = a } ∷ [];
  each = (is, tt);
  runs = k;
}
step_goes T actor step is h g (Err e) k =
    subst (Goes T h) (sym (step_refused h g step e (outcome h actor step) k).1) (goes_none T h)

-- one that was accepted
pub step_outcome : (actor : Actor) (step : Step) (a : Answer) (h g : HeapState) → Steps actor step a h g
    → outcome h actor step ≡ Ok (g, a)
step_outcome actor step a h g k =
    subst (λ (x : HeapState). outcome h actor step ≡ Ok (x, a)) (sym k.steps.2) k.steps.1

-- ---- one part, and then another: `match p { Ok(x) => q(x), Err(e) => Err(e) }`

module _ {A B : Type 0} (P : HeapState → Result A Refusal → HeapState → Type 0)
    (Q : A → HeapState → Result B Refusal → HeapState → Type 0) where
  -- where p is Ok
  pub then_more : (h m g : HeapState) (p : Result A Refusal) (x : A) (q : Result B Refusal) → p ≡ Ok x → P h p m
      → Q x m q g → Then P Q h q g
  then_more h m g p x (Ok y) is a b = (m, x, subst (λ (z : Result A Refusal). P h z m) is a, b)
  then_more h m g p x (Err e) is a b = inr (m, x, subst (λ (z : Result A Refusal). P h z m) is a, b)

  -- where p is Err
  pub then_stops : (h g : HeapState) (p : Result A Refusal) (e : Refusal) → p ≡ Err e → P h p g
      → Then P Q h (Err e) g
  then_stops h g p e is a = inl (subst (λ (z : Result A Refusal). P h z g) is a)

  -- steps of a kind, if those of each part are
  pub then_goes : (T : Actor → Step → Type 0)
      → ((h m : HeapState) (p : Result A Refusal) → P h p m → Goes T h m)
      → ((x : A) (m g : HeapState) (q : Result B Refusal) → Q x m q g → Goes T m g)
      → (h g : HeapState) (q : Result B Refusal) → Then P Q h q g → Goes T h g
  then_goes T a b h g (Ok y) k = goes_then T h k.0 g (a h k.0 (Ok k.1) k.2) (b k.1 k.0 g (Ok y) k.3)
  then_goes T a b h g (Err e) (inl k) = a h g (Err e) k
  then_goes T a b h g (Err e) (inr k) = goes_then T h k.0 g (a h k.0 (Ok k.1) k.2) (b k.1 k.0 g (Err e) k.3)
