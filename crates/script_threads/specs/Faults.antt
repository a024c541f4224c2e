-- Faults of runs by threads.
use Rattle.std.specs.Prelude.{◌≡◌, Bool, true, false, Option, Some, Result, Err}
use Rattle.parser.specs.declared.fault.LineFault.{LineFault}
use Rattle.script_threads.specs.declared.running.ThreadsFault.{ThreadsFault}
use Rattle.script_threads.specs.declared.running.ThreadsFault.TheVariants.{Line}

-- the fault of a command that a run by threads doesn't do
abbrev pub is_line : ThreadsFault → Bool
is_line (Line fault) = true
is_line other = false

-- a run that wasn't begun, since the script has such a command: its fault is the first one's
abbrev pub TellsLine : {X : Type 0} → Option LineFault → Result X ThreadsFault → Type 0
TellsLine first (Err (Line fault)) = first ≡ Some fault
TellsLine first other = ⊥
