-- Collections in parts.
use Rattle.std.specs.Prelude.{◌≡◌, ◌⊎◌, ℕ, Bool, true, false, List, None, Result, Ok, Err}
use Rattle.forward.specs.Counts.{uncopied_count}
use Rattle.model.specs.declared.records.Phase.TheVariants as phases
use Rattle.model.specs.declared.steps.Actor.TheVariants.{Worker}
use Rattle.model.specs.declared.steps.Step.TheVariants as steps
use Rattle.model.specs.declared.steps.Refusal.{Refusal}
use Rattle.model.specs.declared.steps.Refusal.TheVariants as refusals
use Rattle.model.specs.Outcome.{outcome}
use Rattle.model.specs.Phases.{may_start_mark}
use Rattle.model.specs.Refusing.{DoesStep}
use Rattle.model.specs.Scans.{next_drain}
use Rattle.model.specs.States.{HeapState}
use Rattle.managed.specs.Goings.{Goes, IsScan, EndsScan}
use Rattle.managed.specs.Collecting.{StopsCrossing}
use Rattle.managed.specs.Emptying.{Protects}
use Rattle.collecting.specs.Collections.{WORKER, Collects, StopsLeft, has_from}

-- a collection has ended: a mark may start, so none runs and no checkpoint is open; no page is being emptied; and
-- nothing is left to be copied
pub record HasEnded (h : HeapState) : Type 0 where
  pub phase : may_start_mark h.phase ≡ true
  pub pages : has_from h.store.pages ≡ false
  pub copied : uncopied_count h.sides ≡ 0

-- at heap m, the next operation of a collection fails with e, and leaves heap g
pub data StopsAt (m : HeapState) (e : Refusal) (g : HeapState) : Type 0 where
  -- a mark may start, and StartMark is rejected
  Beginning : may_start_mark m.phase ≡ true → outcome m (Worker WORKER) steps.StartMark ≡ Err e → g ≡ m
      → StopsAt m e g
  -- crossings were done, and a thread is left that can't cross
  Crossing : StopsCrossing WORKER m e g → StopsAt m e g
  -- a mark runs that all threads have crossed; scans were done, and the next one is rejected
  Scanning : m.phase ≡ phases.Scanning → Goes (IsScan WORKER) m g → EndsScan WORKER (Err e) g → StopsAt m e g
  -- such a mark runs, nothing is left to scan, and EndMark is rejected
  Ending : m.phase ≡ phases.Scanning → next_drain m WORKER ≡ None → outcome m (Worker WORKER) steps.EndMark ≡ Err e
      → g ≡ m → StopsAt m e g
  -- page n is being emptied, no checkpoint is open, and CopyPage or Release is rejected
  Emptying : (n : ℕ) → StopsLeft m n e g → StopsAt m e g

-- steps of a collection were done, and the next one fails with e
abbrev pub StopsPart : HeapState → Refusal → HeapState → Type 0
StopsPart h e g = (m : HeapState) × Collects h m × StopsAt m e g

-- StopsPart, with all steps that were done
abbrev pub Stops : HeapState → Refusal → HeapState → Type 0
Stops h e g = Collects h g × StopsPart h e g

-- how an operation of a part ended
abbrev pub EndsPortion : {A : Type 0} → HeapState → Result A Refusal → HeapState → Type 0
EndsPortion h (Ok x) g = Collects h g
EndsPortion h (Err e) g = Stops h e g

-- there was no memory for a list of pages, for their plan, or for a fresh page, and nothing was done
abbrev pub LacksMemory : HeapState → Refusal → HeapState → Type 0
LacksMemory h e g = (e ≡ refusals.Memory) × (g ≡ h)

-- how a part ended: true if the collection has ended
abbrev pub EndsPart : HeapState → Result Bool Refusal → HeapState → Type 0
EndsPart h (Ok true) g = Collects h g × HasEnded g
EndsPart h (Ok false) g = Collects h g
EndsPart h (Err e) g = Stops h e g ⊎ LacksMemory h e g

-- how a part ended before registers are corrected
abbrev pub EndsStage : HeapState → Result Bool Refusal → HeapState → Type 0
EndsStage h (Ok b) g = Collects h g
EndsStage h (Err e) g = Stops h e g ⊎ LacksMemory h e g

-- the error is out of memory
abbrev pub is_memory : Refusal → Bool
is_memory refusals.Memory = true
is_memory _ = false

-- how the protection of pages ended
abbrev pub EndsProtecting : HeapState → List ℕ → Result Unit Refusal → HeapState → Type 0
EndsProtecting h ns (Ok u) g = Protects WORKER h ns g
EndsProtecting h ns (Err e) g =
    Collects h g × DoesStep h (steps.Protect ns) (Err e) g (outcome h (Worker WORKER) (steps.Protect ns))

-- how a quantum of the scans ended: true if nothing is left but what other workers have
abbrev pub EndsScanning : HeapState → Result Bool Refusal → HeapState → Type 0
EndsScanning h (Ok true) g = Collects h g × (next_drain g WORKER ≡ None) × (g.phase ≡ h.phase)
EndsScanning h (Ok false) g = Collects h g
EndsScanning h (Err e) g = Goes (IsScan WORKER) h g × EndsScan WORKER (Err e) g
