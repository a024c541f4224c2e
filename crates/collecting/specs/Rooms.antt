-- Buffers and objects, for which the heap is collected if frames run low.
use Rattle.std.specs.Prelude.{◌≡◌, ◌⊎◌, ℕ, true, false, length, Some, Result, Ok, Err}
use Rattle.model.specs.declared.records.Buffer.{Buffer}
use Rattle.model.specs.declared.steps.Actor.{Actor}
use Rattle.model.specs.declared.steps.Actor.TheVariants.{Thread}
use Rattle.model.specs.declared.steps.Step.{Step}
use Rattle.model.specs.declared.steps.Step.TheVariants as steps
use Rattle.model.specs.declared.steps.Answer.TheVariants as answers
use Rattle.model.specs.declared.steps.Refusal.{Refusal}
use Rattle.model.specs.Buffers.{buffer_of_thread}
use Rattle.model.specs.Outcome.{outcome}
use Rattle.model.specs.Plain.{PlainHeap, plain_step}
use Rattle.model.specs.Saying.{lent}
use Rattle.model.specs.States.{HeapState}
use Rattle.refinement.specs.Standing.{Holds}
use Rattle.managed.specs.Goings.{Goes, Steps}
use Rattle.managed.specs.Collecting.{IsCollecting}
use Rattle.collecting.specs.declared.collecting.Collected.{Collected}
use Rattle.collecting.specs.Collections.{WORKER, EndsCollecting, HasMarked, has_buffer, lacks_room}
use Rattle.collecting.specs.Parts.{LacksMemory}

-- thread t gives its buffer back, or takes one; or it is a step of a collection
abbrev pub IsRefill : ℕ → Actor → Step → Type 0
IsRefill t (Thread u) (steps.Take n) = u ≡ t
IsRefill t (Thread u) steps.GiveBack = u ≡ t
IsRefill t actor step = IsCollecting WORKER actor step

-- such steps lead from heap h to g
abbrev pub Refills : ℕ → HeapState → HeapState → Type 0
Refills t h g = Goes (IsRefill t) h g

-- among such steps a mark has begun, and ended: what it found dead can be freed, and the numbers of emptied pages
-- are free
pub record HasMarkedSince (t : ℕ) (h g : HeapState) : Type 0 where
  pub before : HeapState
  pub marked : HeapState
  pub live : ℕ
  pub goes : Refills t h before
  pub marks : HasMarked before live marked
  pub to : Refills t marked g

-- among such steps were a complete collection, and then a mark: nothing more can be freed
pub record HasTriedAll (t percent : ℕ) (h g : HeapState) : Type 0 where
  pub before : HeapState
  pub behind : HeapState
  pub found : Collected
  pub goes : Refills t h before
  pub collects : EndsCollecting percent before (Ok found) behind
  pub marks : HasMarkedSince t behind g

-- nothing is known of the steps before
abbrev pub IsAny : HeapState → HeapState → Type 0
IsAny h g = Unit {0}

-- Take is rejected with e on heap g; never because the thread has a buffer, and for lack of space only if Q holds of
-- the steps before
abbrev pub RefusesTake : (HeapState → HeapState → Type 0) → ℕ → ℕ → HeapState → Refusal → HeapState → Type 0
RefusesTake Q t n h e g =
    (outcome g (Thread t) (steps.Take n) ≡ Err e) × (has_buffer e ≡ false) × (lacks_room e ≡ true → Q h g)

-- such steps were done, and then there was no memory for a fresh page of thread t: nothing more was done
abbrev pub LacksPage : ℕ → HeapState → Refusal → HeapState → Type 0
LacksPage t h e g = (m : HeapState) × Refills t h m × LacksMemory m e g

-- a collection that was begun for thread t has failed with e
abbrev pub StopsCollecting : ℕ → ℕ → HeapState → Refusal → HeapState → Type 0
StopsCollecting t percent h e g = (m : HeapState) × Refills t h m × EndsCollecting percent m (Err e) g

-- how a request of n words for thread t ended. It has them, by a Take as the last step; or Take is rejected, or
-- there was no memory for a fresh page, or a collection has failed
abbrev pub EndsTaking : (HeapState → HeapState → Type 0) → ℕ → ℕ → ℕ → HeapState → Result Buffer Refusal → HeapState
    → Type 0
EndsTaking Q t n percent h (Ok b) g =
    (buffer_of_thread g t ≡ Some b) × ((m : HeapState) × Refills t h m × Steps (Thread t) (steps.Take n) (lent b) m g)
EndsTaking Q t n percent h (Err e) g =
    RefusesTake Q t n h e g ⊎ (LacksPage t h e g ⊎ StopsCollecting t percent h e g)

-- EndsTaking, where there is no space for n words only if a collection and a mark were done in vain
abbrev pub EndsRefill : ℕ → ℕ → ℕ → HeapState → Result Buffer Refusal → HeapState → Type 0
EndsRefill t n percent h r g = EndsTaking (HasTriedAll t percent) t n percent h r g

-- the steps of such a request, and how it ended
abbrev pub RefillsBy : (HeapState → HeapState → Type 0) → ℕ → ℕ → ℕ → HeapState → Result Buffer Refusal → HeapState
    → Type 0
RefillsBy Q t n percent h r g = Refills t h g × EndsTaking Q t n percent h r g

-- the steps of a request, and how it ended as by EndsRefill
abbrev pub RefillsWhole : ℕ → ℕ → ℕ → HeapState → Result Buffer Refusal → HeapState → Type 0
RefillsWhole t n percent h r g = RefillsBy (HasTriedAll t percent) t n percent h r g

-- any error but that the thread has a buffer, or none
abbrev pub IsNotHeld : {A : Type 0} → Result A Refusal → Type 0
IsNotHeld (Ok x) = Unit {0}
IsNotHeld (Err e) = has_buffer e ≡ false

-- how a request of an object for thread t ended. It is made, by a New as the last step; or New is rejected with e on
-- heap g, or the thread got no words
abbrev pub EndsMaking : ℕ → ℕ → ℕ → ℕ → ℕ → HeapState → Result ℕ Refusal → HeapState → Type 0
EndsMaking t n percent target layout h (Ok b) g =
    (m : HeapState) × Refills t h m × Steps (Thread t) (steps.New target layout) (answers.Birth b) m g
EndsMaking t n percent target layout h (Err e) g =
    Refills t h g
    × ((outcome g (Thread t) (steps.New target layout) ≡ Err e) ⊎ EndsRefill t n percent h (Err e) g)

-- if heap h represents a reference model, g represents that with the new object in its register; or, if none was
-- made, the same one
abbrev pub MakingStands : ℕ → ℕ → ℕ → HeapState → Result ℕ Refusal → HeapState → Type 0
MakingStands t target layout h (Ok b) g = (p p0 : PlainHeap) → Holds h p p0 → (q0 : PlainHeap)
    × Holds g (plain_step h.config.layouts p (Thread t) (steps.New target layout)) q0 × (b ≡ length p.objects)
MakingStands t target layout h (Err e) g = (p p0 : PlainHeap) → Holds h p p0 → (q0 : PlainHeap) × Holds g p q0
