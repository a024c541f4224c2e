-- The results of runs in which the heap is verified.
use Rattle.script.specs.declared.check.schedule.Checked.{Checked}
use Rattle.script.specs.declared.check.schedule.Checked.TheVariants.{Sound, Faulty}

-- no verification found a fault
abbrev pub IsClean : Checked → Type 0
IsClean (Sound count) = Unit {0}
IsClean (Faulty fault) = ⊥
