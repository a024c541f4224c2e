-- The places of commands that not every kind of run does, by the lines of a text. A line that begins with `w` is a
-- command of a worker; its first word is the actor's, and its second the verb's.
use Rattle.std.specs.Prelude.{◌≡◌, ℕ, ◌+◌, ◌==◌, ◌&&◌, ◌||◌, not, Bool, true, false, List, [], ◌∷◌, ◌++◌, length}
use Rattle.std.specs.Prelude.{Option, codes, position}
use Rattle.std.specs.Option.{option_map}
use Rattle.std.specs.List.{slice_split, slice_index_or, All}
use Rattle.std.specs.Str.{bytes_eq}
use Rattle.model.specs.declared.config.Config.{Config}
use Rattle.parser.specs.declared.fault.FaultKind.{FaultKind}
use Rattle.parser.specs.declared.fault.FaultKind.TheVariants as kinds
use Rattle.parser.specs.declared.fault.LineFault.{LineFault}
use Rattle.parser.specs.declared.order.Command.{Command}
use Rattle.parser.specs.declared.spots.Sought.{Sought}
use Rattle.parser.specs.declared.spots.Sought.TheVariants as sought
use Rattle.parser.specs.declared.spots.Spots.{Spots}
use Rattle.parser.specs.Words.{word_at}
use Rattle.parser.specs.Orders.{first_byte, then_of, is_cycles, is_raced}
use Rattle.parser.specs.Reading.{newline, first_word, first_word_in}
use Rattle.parser.specs.Spelling.{actor_word, command_line_of, IsLine, IsCommand}
use Rattle.parser.specs.Faults.{text_of}

-- a line is a command of a worker
abbrev pub is_workers : List ℕ → Bool
is_workers line = first_byte line == 119

-- the second word of a line, or an empty one
unfoldable pub second_word : List ℕ → List ℕ
second_word line = (first_word_in (word_at line (first_word line).1)).0

-- the word of a cycle, or of the first half of one
abbrev pub is_cycle_word : List ℕ → Bool
is_cycle_word word = bytes_eq word (codes "cycle") || bytes_eq word (codes "roll")

-- a line is a cycle, or the first half of one
abbrev pub is_cycle_line : List ℕ → Bool
is_cycle_line line = is_workers line && is_cycle_word (second_word line)

-- a line is a command of a worker other than a cycle of worker 0 or the first half of one
abbrev pub is_other_line : List ℕ → Bool
is_other_line line =
    is_workers line && not (bytes_eq (first_word line).0 (codes "w0") && is_cycle_word (second_word line))

-- a line is a command that is searched for
abbrev pub is_sought : Sought → List ℕ → Bool
is_sought sought.Cycle line = is_cycle_line line
is_sought sought.Other line = is_other_line line

-- the fault of such a line in the other kind of run
abbrev pub fault_of : Sought → FaultKind
fault_of sought.Cycle = kinds.CycleNeedsThreads
fault_of sought.Other = kinds.UnknownWord

-- the fault of a line with this number, at the line's second word
abbrev pub fault_at : FaultKind → ℕ → List ℕ → LineFault
fault_at kind number line = record { line = number; column = (first_word line).1 + 1; kind = kind }

-- the first line that is searched for, as a fault; lines count from 1
unfoldable pub first_spot : Sought → List (List ℕ) → Option LineFault
first_spot s lines =
    option_map (λ i. fault_at (fault_of s) (i + 1) (slice_index_or lines i [])) (position (is_sought s) lines)

-- the places of the first commands that not every kind of run does
unfoldable pub spots_in : List ℕ → Spots
spots_in bytes = record {
  cycle = first_spot sought.Cycle (slice_split newline bytes);
  other = first_spot sought.Other (slice_split newline bytes);
}

-- a command is one that is searched for
abbrev pub is_sought_command : Sought → Command → Bool
is_sought_command sought.Cycle c = is_cycles (then_of c.order)
is_sought_command sought.Other c = not (is_raced c.actor (then_of c.order))

-- no command of the configuration that this line spells is searched for
abbrev pub SpellsNone : Sought → Config → List ℕ → Type 0
SpellsNone s config line =
    (c : Command) → IsCommand config c → line ≡ command_line_of c → is_sought_command s c ≡ false

-- The fault is at the verb's word of a line that spells a command which is searched for, and no line before it spells
-- one.
pub record IsFirstSpot (s : Sought) (config : Config) (bytes : List ℕ) (fault : LineFault) : Type 0 where
  pub before : List (List ℕ)
  pub command : Command
  pub behind : List ℕ
  pub each : All IsLine before
  pub bytes_are : bytes ≡ text_of before ++ (command_line_of command ++ 10 ∷ behind)
  pub own : IsCommand config command
  pub is : is_sought_command s command ≡ true
  pub number : fault.line ≡ length before + 1
  pub column : fault.column ≡ length (actor_word command.actor) + 2
  pub kind : fault.kind ≡ fault_of s
  pub first : All (SpellsNone s config) before
