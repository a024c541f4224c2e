-- The promises of running a script by threads.
use Rattle.std.specs.Prelude.{◌≡◌, ◌⊎◌, ℕ, true, false, List, Option, Some, Result, Ok, Err}
use Rattle.std.specs.Io.KnownBytes.{Appends}
use Rattle.model.specs.declared.steps.Actor.{Actor}
use Rattle.cycle.specs.Books.{BookState}
use Rattle.cycle.specs.Replays.{IsBook}
use Rattle.parser.specs.declared.fault.LineFault.{LineFault}
use Rattle.parser.specs.declared.fault.ParseFault.TheVariants.{Line}
use Rattle.parser.specs.Orders.{needs_schedule}
use Rattle.parser.specs.Reading.{ScriptValue, script_in}
use Rattle.parser.specs.Scripts.{ParsedScript}
use Rattle.sharing.specs.Seats.{AreSettled, SeatState}
use Rattle.script_threads.specs.Settled.{settled_text, stray_text}
use Rattle.cli.specs.Running.{HoldsScript, IsNoScript}
use Rattle.cli.specs.declared.running.ServeFault.{ServeFault}
use Rattle.cli.specs.declared.running.ServeFault.TheVariants.{Parse}

-- the bytes are at most `MOST_BYTES`, and a script whose commands a run by threads does
abbrev pub IsRaced : List ℕ → Type 0
IsRaced bytes = (s : ParsedScript) × HoldsScript s bytes × (needs_schedule s.commands ≡ false)

-- the bytes are a script with a command that a run by threads doesn't do
abbrev pub NeedsSchedule : List ℕ → Type 0
NeedsSchedule bytes = (s : ScriptValue) × (script_in bytes ≡ Ok s) × (needs_schedule s.commands ≡ true)

-- the bytes are too many for a script, or no script, or one with a command that a run by threads doesn't do
abbrev pub HasRaceFault : List ℕ → Type 0
HasRaceFault bytes = IsNoScript bytes ⊎ NeedsSchedule bytes

-- The text of seats that agree with the history of a recorded heap was appended.
pub record TellsSettled (old new : Option (List ℕ)) : Type 0 where
  pub book : BookState
  pub law : IsBook book
  pub seats : List SeatState
  pub settled : AreSettled book.history seats
  pub written : Appends old new (settled_text seats)

-- The line of a stray actor was appended.
abbrev pub TellsStray : Option (List ℕ) → Option (List ℕ) → Type 0
TellsStray old new = (actor : Actor) × Appends old new (stray_text actor)

-- a run that wasn't begun, since the script has a command that such a run doesn't do: its fault is the first one's
abbrev pub TellsFault : {X : Type 0} → Option LineFault → Result X ServeFault → Type 0
TellsFault first (Err (Parse (Line fault))) = first ≡ Some fault
TellsFault first other = ⊥
