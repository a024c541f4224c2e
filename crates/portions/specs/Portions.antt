-- Portions: many steps of one thread, one after another, on a shared heap.
use Rattle.std.specs.Prelude.{◌≡◌, ◌⊎◌, ℕ, Bool, false, slice_get, Result, Ok, Err}
use Rattle.model.specs.declared.steps.Refusal.{Refusal}
use Rattle.model.specs.declared.steps.Refusal.TheVariants as refusals
use Rattle.model.specs.Checkpoints.{all_crossed}
use Rattle.model.specs.Registers.{let_through, register_of}
use Rattle.model.specs.States.{HeapState}
use Rattle.model.specs.Threads.{is_parked_in}
use Rattle.managed.specs.Goings.{Goes, IsCrossing}
use Rattle.managed.specs.Managing.{Promises}
use Rattle.managed.specs.Scrubbing.{names_protected}
use Rattle.collecting.specs.Collections.{WORKER}
use Rattle.collecting.specs.Parts.{EndsPart}
use Rattle.collecting.specs.Stages.{PartGoesOn, PartsState}
use Rattle.portions.specs.Apart.{IsApart, IsStill}
use Rattle.portions.specs.Others.{KeepsOthers}

-- the thread whose portion it is, and the heap
pub record MutatorState : Type 0 where
  pub thread : ℕ
  pub heap : HeapState

-- thread t may use whatever its registers name: it runs, and no register names a page that is being emptied, or was
pub record MayUseAll (h : HeapState) (t : ℕ) : Type 0 where
  pub runs : is_parked_in (slice_get h.threads t) ≡ false
  pub registers : (r : ℕ) → names_protected h (register_of h t r) ≡ false

-- a portion of thread t has just begun
pub record Begins (t : ℕ) (m : MutatorState) : Type 0 where
  pub thread : m.thread ≡ t
  pub uses : MayUseAll m.heap t

-- still a portion of the same thread, and no other thread's registers have changed
pub record GoesOn (old new : MutatorState) : Type 0 where
  pub thread : new.thread ≡ old.thread
  pub others : KeepsOthers old.thread old.heap new.heap

-- no page is kept from thread t until others have crossed
abbrev pub NeverStalls : HeapState → ℕ → Type 0
NeverStalls h t = (address : ℕ) → let_through h t address ≡ Err refusals.Stall → ⊥

-- what holds at each moment of a portion: only its thread runs, no thread is inside a load, and no checkpoint is
-- open; so the thread never stalls, and no step waits for a thread that hasn't crossed; and the heap keeps its
-- promises
pub record HoldsInPortion (m : MutatorState) : Type 0 where
  pub apart : IsApart m.heap m.thread
  pub stalls : NeverStalls m.heap m.thread
  pub crossed : all_crossed m.heap ≡ Ok tt
  pub promises : Promises m.heap

-- a call that does P, after which crossings may have closed a checkpoint that it left open
abbrev pub ThenCrosses : (HeapState → Type 0) → HeapState → Type 0
ThenCrosses P g = (m : HeapState) × P m × Goes (IsCrossing WORKER) m g

-- the same portion continues, or another one of its thread has begun
abbrev pub Rests : MutatorState → MutatorState → Type 0
Rests old new = (new ≡ old) ⊎ (Begins old.thread new × HoldsInPortion new)

-- a part of a collection ended with this result, and its effect by its stage
abbrev pub EndsThisPart : ℕ → ℕ → PartsState → HeapState → Result Bool Refusal → PartsState → HeapState → Type 0
EndsThisPart percent budget old h result new g =
    EndsPart h result g × PartGoesOn percent budget old h result new g

-- between two portions a part of a collection was done, on a heap whose threads were all parked
pub record CollectsBetween (percent budget : ℕ) (old new : PartsState) (result : Result Bool Refusal) (m : MutatorState)
    : Type 0 where
  pub before : HeapState
  pub still : IsStill before
  pub ends : ThenCrosses (EndsThisPart percent budget old before result new) m.heap
  pub holds : HoldsInPortion m
