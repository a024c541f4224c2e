-- The promises of running a script.
use Rattle.std.specs.Prelude.{◌≡◌, ◌≤◌, ◌⊎◌, ℕ, ◌+◌, true, List, length, take, Option, Ok, IfSome, IsErr}
use Rattle.std.specs.Io.Buffered.{writer_contents}
use Rattle.std.specs.Io.KnownBytes.{Appends}
use Rattle.std.specs.declared.io.buffered.BufWriter.{BufWriter}
use Rattle.parser.specs.Reading.{ScriptValue, script_in}
use Rattle.parser.specs.declared.script.TheConstants.{MOST_BYTES}
use Rattle.parser.specs.Scripts.{IsTooLong, ParsedScript, script_alone}
use Rattle.parser.specs.Spots.{spots_in}
use Rattle.parser.specs.Orders.{needs_threads}
use Rattle.parser.specs.declared.fault.ParseFault.TheVariants.{Line, TooLong}
use Rattle.script.specs.Output.{output_text}
use Rattle.script.specs.declared.fault.RunFault.TheVariants as runs
use Rattle.cli.specs.declared.running.ServeFault.{ServeFault}
use Rattle.cli.specs.declared.running.ServeFault.TheVariants.{Parse, Run}

-- the bytes that were read: all that the reader has, or one more than `MOST_BYTES`
abbrev pub ReadsUpTo : Option (List ℕ) → List ℕ → Type 0
ReadsUpTo known bytes = IfSome known (λ all. bytes ≡ take (MOST_BYTES + 1) all)

-- the bytes are at most `MOST_BYTES`, they are a script, and its output was appended to what was there
pub record Prints {T A : Type 0} (contents : T → Option (List ℕ)) (old new : BufWriter T A) (bytes : List ℕ)
    : Type 0 where
  pub fits : length bytes ≤ MOST_BYTES
  pub script : ScriptValue
  pub read : script_in bytes ≡ Ok script
  pub written : Appends (writer_contents contents old) (writer_contents contents new) (output_text script)

-- the bytes are at most `MOST_BYTES`, and they are this script, with the places of its first commands that not every
-- kind of run does
pub record HoldsScript (script : ParsedScript) (bytes : List ℕ) : Type 0 where
  pub fits : length bytes ≤ MOST_BYTES
  pub read : script_in bytes ≡ Ok (script_alone script)
  pub spots : script.spots ≡ spots_in bytes

-- the bytes are too many for a script, or no script
abbrev pub IsNoScript : List ℕ → Type 0
IsNoScript bytes = IsTooLong bytes ⊎ IsErr (script_in bytes)

-- the bytes are a script with a command that only a run by threads does
abbrev pub NeedsThreads : List ℕ → Type 0
NeedsThreads bytes = (s : ScriptValue) × (script_in bytes ≡ Ok s) × (needs_threads s.commands ≡ true)

-- the bytes are no script, or one that needs threads
abbrev pub HasFault : List ℕ → Type 0
HasFault bytes = IsNoScript bytes ⊎ NeedsThreads bytes

-- the exit status: 2 for a fault of the script
abbrev pub fault_status : ServeFault → ℕ
fault_status (Parse (Line fault)) = 2
fault_status (Parse TooLong) = 2
fault_status (Run (runs.Line fault)) = 2
fault_status _ = 3

-- the exit status: 0 if done, 2 for a fault of the script or of usage, 3 for all else
abbrev pub IsStatus : ℕ → Type 0
IsStatus status = (status ≡ 0) ⊎ ((status ≡ 2) ⊎ (status ≡ 3))
