-- Steps that leave the reference model as it is.
use Rattle.std.specs.Prelude.{◌≡◌, ℕ, Result, Ok, Err}
use Rattle.model.specs.declared.steps.Actor.{Actor}
use Rattle.model.specs.declared.steps.Actor.TheVariants.{Thread, Worker}
use Rattle.model.specs.declared.steps.Step.{Step}
use Rattle.model.specs.declared.steps.Step.TheVariants as steps
use Rattle.model.specs.declared.steps.Answer.{Answer}
use Rattle.model.specs.declared.steps.Answer.TheVariants as answers
use Rattle.model.specs.declared.steps.Refusal.{Refusal}
use Rattle.model.specs.Checkpoints.{all_crossed}
use Rattle.model.specs.Outcome.{outcome}
use Rattle.model.specs.Plain.{PlainHeap}
use Rattle.model.specs.States.{HeapState}
use Rattle.refinement.specs.Standing.{Holds, FindsLive}
use Rattle.managed.specs.Goings.{Goes, Steps, IsDrain, IsCrossing, IsBehind, EndsDrain}
use Rattle.managed.specs.Sequences.{Then, EndsStep}

-- a step of a collection: any of worker w, and of any thread to cross or to scrub
abbrev pub IsCollecting : ℕ → Actor → Step → Type 0
IsCollecting w (Thread t) steps.Cross = Unit {0}
IsCollecting w (Thread t) (steps.Scrub r) = Unit {0}
IsCollecting w (Thread t) _ = ⊥
IsCollecting w (Worker v) step = v ≡ w

-- if heap h represents a reference model, g represents the same one; a mark may have begun since
pub record StandsUnseen (h g : HeapState) : Type 0 where
  pub same : (p p0 : PlainHeap) → Holds h p p0 → (q0 : PlainHeap) × Holds g p q0

-- how many objects live, by an answer
abbrev pub live_in : Answer → ℕ
live_in (answers.Ended live retired) = live
live_in _ = 0

-- how many objects live, by a reply
abbrev pub live_told : Result Answer Refusal → Result ℕ Refusal
live_told (Ok a) = Ok (live_in a)
live_told (Err e) = Err e

-- a mark was ended by EndMark, which returned how many objects live; and if heap h represents a reference model, g
-- represents the same one, all that can be reached is live, and what is live could be reached as the mark began, or is
-- born since
pub record EndsWell (w : ℕ) (h : HeapState) (live : ℕ) (g : HeapState) : Type 0 where
  pub answer : Answer
  pub last : Steps (Worker w) steps.EndMark answer h g
  pub told : live ≡ live_in answer
  pub finds : (p p0 : PlainHeap) → Holds h p p0 → (q0 : PlainHeap) × Holds g p q0 × FindsLive g p q0

-- all threads have crossed, by crossings
abbrev pub Crosses : ℕ → HeapState → HeapState → Type 0
Crosses w h g = Goes (IsCrossing w) h g × (all_crossed g ≡ Ok tt)

-- crossings were done, and a thread is left that can't cross
abbrev pub StopsCrossing : ℕ → HeapState → Refusal → HeapState → Type 0
StopsCrossing w h e g = Goes (IsCrossing w) h g × (all_crossed g ≡ Err e) × IsBehind w g e

-- how the crossing of all threads ended: all have crossed, or a thread is left that can't cross
abbrev pub EndsCrossing : ℕ → HeapState → Result Unit Refusal → HeapState → Type 0
EndsCrossing w h (Ok u) g = Crosses w h g
EndsCrossing w h (Err e) g = StopsCrossing w h e g

-- the steps of a drain, and how it ended
abbrev pub EndsDraining : ℕ → HeapState → Result Unit Refusal → HeapState → Type 0
EndsDraining w h result g = Goes (IsDrain w) h g × EndsDrain w h result g

-- how the last step of a mark, EndMark, ended; if it is rejected, nothing is done
abbrev pub EndsHere : ℕ → HeapState → Result ℕ Refusal → HeapState → Type 0
EndsHere w h (Ok live) g = EndsWell w h live g
EndsHere w h (Err e) g = (outcome h (Worker w) steps.EndMark ≡ Err e) × (g ≡ h)

-- how the rest of a mark that all threads have crossed ended: a drain, and then the last step
abbrev pub EndsScanned : ℕ → HeapState → Result ℕ Refusal → HeapState → Type 0
EndsScanned w h result g = Then (EndsDraining w) (λ (u : Unit {0}). EndsHere w) h result g

-- how the rest of a mark that has begun ended: all threads cross, and then a drain and the last step follow
abbrev pub EndsRest : ℕ → HeapState → Result ℕ Refusal → HeapState → Type 0
EndsRest w h result g = Then (EndsCrossing w) (λ (u : Unit {0}). EndsScanned w) h result g

-- how a mark ended: its first step, StartMark, and then the rest
abbrev pub EndsMark : ℕ → HeapState → Result ℕ Refusal → HeapState → Type 0
EndsMark w h result g = Then (EndsStep (Worker w) steps.StartMark) (λ (a : Answer). EndsRest w) h result g
