-- The promises of reading a script.
use Rattle.std.specs.Prelude.{◌≡◌, ℕ, ◌<◌, List, length, Result, Ok, Err}
use Rattle.std.specs.Option.{is_some}
use Rattle.model.specs.declared.config.Config.{Config}
use Rattle.parser.specs.declared.fault.LineFault.{LineFault}
use Rattle.parser.specs.declared.fault.ParseFault.{ParseFault}
use Rattle.parser.specs.declared.fault.ParseFault.TheVariants as faults
use Rattle.parser.specs.declared.order.Command.{Command}
use Rattle.parser.specs.declared.script.TheConstants.{MOST_BYTES}
use Rattle.parser.specs.declared.spots.Spots.{Spots}
use Rattle.parser.specs.Orders.{needs_threads, needs_schedule}
use Rattle.parser.specs.Reading.{ScriptValue, script_of}
use Rattle.parser.specs.Spelling.{IsScript}

-- an error is the reason why nothing was read: a fault is the one that reading defines
abbrev pub IsWhy : ParseFault → Result ScriptValue LineFault → Type 0
IsWhy faults.Memory read = Unit {0}
IsWhy faults.TooLong read = Unit {0}
IsWhy (faults.Line f) read = read ≡ Err f

-- a parsed script, with the places of its first commands that not every kind of run does
pub record ParsedScript : Type 0 where
  pub config : Config
  pub commands : List Command
  pub spots : Spots

-- the script without these places
abbrev pub script_alone : ParsedScript → ScriptValue
script_alone s = script_of s.config s.commands

-- The script is within all limits. It has the place of a first cycle, and of a first command that a run by threads
-- doesn't do, exactly if there is such a command.
pub record IsParsed (s : ParsedScript) : Type 0 where
  pub script : IsScript (script_alone s)
  pub cycle : is_some s.spots.cycle ≡ needs_threads s.commands
  pub other : is_some s.spots.other ≡ needs_schedule s.commands

-- the result is what reading defines, unless there are too many bytes or it is out of memory
abbrev pub IsReadOf : Result ParsedScript ParseFault → Result ScriptValue LineFault → Type 0
IsReadOf (Ok s) read = read ≡ Ok (script_alone s)
IsReadOf (Err e) read = IsWhy e read

-- more bytes than a script may have
abbrev pub IsTooLong : List ℕ → Type 0
IsTooLong bytes = MOST_BYTES < length bytes
