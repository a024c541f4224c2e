-- Faults of runs.
use Rattle.std.specs.Prelude.{◌≡◌, Bool, true, false, Option, Some, Result, Err}
use Rattle.parser.specs.declared.fault.LineFault.{LineFault}
use Rattle.script.specs.declared.fault.RunFault.{RunFault}
use Rattle.script.specs.declared.fault.RunFault.TheVariants.{Line}

-- the fault of a command that only a run by threads does
abbrev pub is_line : RunFault → Bool
is_line (Line fault) = true
is_line other = false

-- a run that wasn't begun, since the script has such a command: its fault is the first one's
abbrev pub TellsLine : {X : Type 0} → Option LineFault → Result X RunFault → Type 0
TellsLine first (Err (Line fault)) = first ≡ Some fault
TellsLine first other = ⊥
