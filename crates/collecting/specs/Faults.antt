-- A few kinds of errors.
use Rattle.std.specs.Prelude.{Option, Some, None}
use Rattle.model.specs.declared.steps.Refusal.{Refusal}
use Rattle.model.specs.declared.steps.Refusal.TheVariants as refusals
use Rattle.model.specs.declared.steps.Step.{Step}
use Rattle.model.specs.States.{HeapState}
use Rattle.collecting.specs.declared.faults.CallFault.{CallFault}
use Rattle.collecting.specs.declared.faults.CallFault.TheVariants as faults
use Rattle.collecting.specs.declared.numbers.Number.{Number}
use Rattle.collecting.specs.declared.numbers.Number.TheVariants as numbers
use Rattle.collecting.specs.Numbers.{wrong_number}

-- the kind of an error
abbrev pub fault_of : Refusal → CallFault
fault_of refusals.Null = faults.Null
fault_of refusals.NoActor = faults.Index
fault_of refusals.BadIndex = faults.Index
fault_of refusals.NoRoom = faults.Full
fault_of (refusals.NoFrames need free) = faults.Full
fault_of refusals.NoPages = faults.Full
fault_of refusals.Memory = faults.Memory
fault_of refusals.Births = faults.Births
fault_of other = faults.Held other

-- the kind of error of a number that names nothing, if it is known which
abbrev pub number_fault : Option Number → CallFault
number_fault None = faults.Index
number_fault (Some n) = faults.Wrong n

-- the kind of an error of a thread's step, with the number that names nothing
abbrev pub fault_in : HeapState → Step → Refusal → CallFault
fault_in h s refusals.NoActor = faults.Wrong numbers.Thread
fault_in h s refusals.BadIndex = number_fault (wrong_number h s)
fault_in h s other = fault_of other
