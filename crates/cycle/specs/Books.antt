-- Recorded heaps: a heap and the history of its accepted steps.
use Rattle.std.specs.Prelude.{◌≡◌, Bool, false, List, [], ◌∷◌, ◌++◌, length, nat_le, Result, Ok, Err, Some, None}
use Rattle.std.specs.Prelude.{if◌then◌else◌, ◌⊎◌}
use Rattle.model.specs.declared.config.Config.{Config}
use Rattle.model.specs.declared.steps.Actor.{Actor}
use Rattle.model.specs.declared.steps.Step.{Step}
use Rattle.model.specs.declared.steps.Answer.{Answer}
use Rattle.model.specs.declared.steps.Refusal.{Refusal}
use Rattle.model.specs.declared.steps.Refusal.TheVariants as refusals
use Rattle.model.specs.Configs.{first_fault}
use Rattle.model.specs.States.{HeapState}
use Rattle.model.specs.First.{first_heap}
use Rattle.model.specs.Refusing.{Outcome}
use Rattle.model.specs.Outcome.{outcome}
use Rattle.heap.specs.declared.fault.NewFault.{NewFault}
use Rattle.heap.specs.declared.fault.NewFault.TheVariants as faults
use Rattle.entries.specs.declared.entry.Entry.{Entry}

-- a recorded heap: its heap, and its accepted steps with their answers, oldest first
pub record BookState : Type 0 where
  pub heap : HeapState
  pub history : List Entry

-- the history has as many entries as its limit allows
unfoldable pub is_full : BookState → Bool
is_full b = nat_le b.heap.config.history (length b.history)

-- the first heap of a configuration, and no history
unfoldable pub first_book : Config → BookState
first_book c = record { heap = first_heap c; history = [] }

-- making a recorded heap returns its first state, the first fault of its configuration, or out of memory
abbrev pub MakesBook : Config → Result BookState NewFault → Type 0
MakesBook c (Ok b) = (first_fault c ≡ None) × (b ≡ first_book c)
MakesBook c (Err (faults.Config f)) = first_fault c ≡ Some f
MakesBook c (Err faults.Memory) = first_fault c ≡ None

-- a reply to a step
abbrev pub Reply : Type 0
Reply = Result Answer Refusal

-- the recorded heap and the answer after a step, or why it is rejected
abbrev pub BookOutcome : Type 0
BookOutcome = Result (BookState × Answer) Refusal

-- the recorded heap after the heap's outcome: an accepted step enters the history with its answer
abbrev pub enter_accepted : BookState → Actor → Step → Outcome → BookOutcome
enter_accepted b actor step (Err e) = Err e
enter_accepted b actor step (Ok x) =
    Ok (record { heap = x.0; history = b.history ++ record { actor = actor; step = step; answer = x.1 } ∷ [] }, x.1)

-- a full history rejects the step; else the heap decides, and an accepted step enters the history with its answer
unfoldable pub act_outcome : BookState → Actor → Step → BookOutcome
act_outcome b actor step =
    if is_full b then Err refusals.HistoryFull else enter_accepted b actor step (outcome b.heap actor step)

-- a call has this outcome, or is out of memory, if the history isn't full; a rejected one changed nothing
abbrev pub Acts : BookState → Reply → BookState → BookOutcome → Type 0
Acts old (Ok answer) new outcome = outcome ≡ Ok (new, answer)
Acts old (Err e) new outcome = (((is_full old ≡ false) × (e ≡ refusals.Memory)) ⊎ (outcome ≡ Err e)) × (new ≡ old)
