-- Why the steps of a command stop early.
use Rattle.script.specs.declared.check.steps.Stop.{Stop}
use Rattle.script.specs.declared.check.steps.Stop.TheVariants.{Memory, Faulty}

-- it is out of memory: no verification found a fault
abbrev pub IsWant : Stop → Type 0
IsWant Memory = Unit {0}
IsWant (Faulty fault) = ⊥
