-- A mutator in contracts.
use Rattle.portions.specs.Apart.{IsApart}
use Rattle.portions.specs.Portions.{MutatorState}
use Rattle.portions.specs.declared.mutator.Mutator.TheInside.{Inside}

abbrev pub mutator_of : Inside → MutatorState
mutator_of m = record { thread = m.thread; heap = m.heap }

-- only its thread may run, no thread is inside a load, and no checkpoint is open
abbrev pub IsMutator : Inside → Type 0
IsMutator m = IsApart m.heap m.thread
