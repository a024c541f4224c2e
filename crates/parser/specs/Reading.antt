-- A script from its first line to its last.
use Rattle.std.specs.Prelude.{◌≡◌, ℕ, ◌+◌, ◌*◌, ◌==◌, ◌&&◌, not, Bool, true, false, List, [], ◌∷◌, ◌++◌, length, take}
use Rattle.std.specs.Prelude.{drop, Option, Some, None, Result, Ok, Err, nat_lt, nat_le, if◌then◌else◌, codes, position}
use Rattle.std.specs.Str.{bytes_eq}
use Rattle.std.specs.List.{slice_split, repeat}
use Rattle.layout.specs.declared.shape.Layout.{Layout}
use Rattle.model.specs.declared.config.Config.{Config}
use Rattle.parser.specs.declared.fault.FaultKind.{FaultKind}
use Rattle.parser.specs.declared.fault.FaultKind.TheVariants as kinds
use Rattle.parser.specs.declared.fault.Flaw.{Flaw}
use Rattle.parser.specs.declared.fault.LineFault.{LineFault}
use Rattle.parser.specs.declared.fault.ParseFault.{ParseFault}
use Rattle.parser.specs.declared.fault.ParseFault.TheVariants as faults
use Rattle.parser.specs.declared.heading.Sizes.{Sizes}
use Rattle.parser.specs.declared.order.Command.{Command}
use Rattle.parser.specs.declared.fault.Stop.{Stop}
use Rattle.parser.specs.declared.fault.Stop.TheVariants as stops
use Rattle.parser.specs.declared.limits.TheConstants.{MOST_LAYOUTS}
use Rattle.parser.specs.declared.reading.TheConstants.{MOST_COMMANDS, MOST_TURNS}
use Rattle.parser.specs.Words.{◌>>=◌, flaw, word_at, number_at, end_at}
use Rattle.parser.specs.Headings.{heap_in, layout_in, config_of}
use Rattle.parser.specs.Orders.{actor_at, order_at}

-- a script as contracts see it
pub record ScriptValue : Type 0 where
  pub config : Config
  pub commands : List Command

-- the script of a configuration and commands
abbrev pub script_of : Config → List Command → ScriptValue
script_of config commands = record { config = config; commands = commands }

-- What was read so far: the sizes, the layouts, whether a command or a block has begun, the commands outside the open
-- block, the turns of the open block, if there is one, and its commands.
pub record ReadSoFar : Type 0 where
  pub sizes : Option Sizes
  pub layouts : List Layout
  pub begun : Bool
  pub commands : List Command
  pub turns : Option ℕ
  pub body : List Command

-- nothing is read yet
abbrev pub nothing : ReadSoFar
nothing = record { sizes = None; layouts = []; begun = false; commands = []; turns = None; body = [] }

-- the byte that ends a line
abbrev pub newline : ℕ → Bool
newline b = b == 10

-- the line is empty or a comment
abbrev pub is_idle : List ℕ → Bool
is_idle [] = true
is_idle (b ∷ bs) = b == 35

-- a word, or an empty one if there is none
abbrev pub first_word_in : Option (List ℕ × ℕ) → List ℕ × ℕ
first_word_in None = ([], 0)
first_word_in (Some w) = w

-- the first word of a line, and the place after it
unfoldable pub first_word : List ℕ → List ℕ × ℕ
first_word line = first_word_in (word_at line 0)

-- a heap line gives the sizes
unfoldable pub heap_line : ReadSoFar → List ℕ → Result ReadSoFar Flaw
heap_line s line = if bytes_eq (first_word line).0 (codes "heap") then (do
  sizes ← heap_in line (first_word line).1
  Ok (record s { sizes = Some sizes })) else Err (flaw 0 kinds.HeapLineExpected)

-- a layout line adds a layout
unfoldable pub layout_line : ReadSoFar → Sizes → List ℕ → Result ReadSoFar Flaw
layout_line s sizes line = do
  layout ← layout_in sizes line (first_word line).1
  Ok (record s { layouts = s.layouts ++ layout ∷ [] })

-- no block is open, and no more commands are allowed
abbrev pub is_full : Option ℕ → List Command → Bool
is_full None commands = nat_le MOST_COMMANDS (length commands)
is_full (Some turns) commands = false

-- a command after what was read: in the open block, or outside
abbrev pub with_command : ReadSoFar → Option ℕ → Command → ReadSoFar
with_command s None c = record s { begun = true; commands = s.commands ++ c ∷ [] }
with_command s (Some turns) c = record s { body = s.body ++ c ∷ [] }

-- a command line adds a command
unfoldable pub command_line : ReadSoFar → Sizes → List ℕ → Result ReadSoFar Flaw
command_line s sizes line = do
  actor ← actor_at sizes line
  if is_full s.turns s.commands then Err (flaw 0 kinds.TooManyCommands) else (do
    order ← order_at sizes line actor.0 actor.1
    Ok (with_command s s.turns (record { actor = actor.0; order = order })))

-- a line that begins a block; a fault if one is open
abbrev pub times_in : ReadSoFar → Option ℕ → List ℕ → Result ReadSoFar Flaw
times_in s (Some turns) line = Err (flaw 0 kinds.UnknownWord)
times_in s None line = do
  turns ← number_at line (first_word line).1 1 MOST_TURNS
  _ ← end_at line turns.1
  Ok (record s { begun = true; turns = Some turns.0; body = [] })

-- a block begins
unfoldable pub times_line : ReadSoFar → List ℕ → Result ReadSoFar Flaw
times_line s line = times_in s s.turns line

-- a line that ends a block; a fault if none is open
abbrev pub end_in : ReadSoFar → Option ℕ → List ℕ → Result ReadSoFar Flaw
end_in s None line = Err (flaw 0 kinds.EndWithoutTimes)
end_in s (Some turns) line =
    if nat_lt MOST_COMMANDS (length s.commands + turns * length s.body) then Err (flaw 0 kinds.TooManyCommands) else (do
      _ ← end_at line (first_word line).1
      Ok (record s { commands = s.commands ++ repeat turns s.body; turns = None; body = [] }))

-- a block ends: its commands are repeated for each of its turns
unfoldable pub end_line : ReadSoFar → List ℕ → Result ReadSoFar Flaw
end_line s line = end_in s s.turns line

-- a line of a command or of a block
unfoldable pub part_line : ReadSoFar → Sizes → List ℕ → Result ReadSoFar Flaw
part_line s sizes line =
    if bytes_eq (first_word line).0 (codes "times") then times_line s line else
    (if bytes_eq (first_word line).0 (codes "end") then end_line s line else command_line s sizes line)

-- a line after the heap line
unfoldable pub later_line : ReadSoFar → Sizes → List ℕ → Result ReadSoFar Flaw
later_line s sizes line =
    if bytes_eq (first_word line).0 (codes "layout") && not s.begun && nat_lt (length s.layouts) MOST_LAYOUTS
    then layout_line s sizes line else
    (if length s.layouts == 0 then Err (flaw 0 kinds.LayoutLineExpected) else part_line s sizes line)

-- the first line that isn't idle is the heap line
abbrev pub line_after : ReadSoFar → Option Sizes → List ℕ → Result ReadSoFar Flaw
line_after s None line = heap_line s line
line_after s (Some sizes) line = later_line s sizes line

-- what was read, after one more line
unfoldable pub line_in : ReadSoFar → List ℕ → Result ReadSoFar Flaw
line_in s line = if is_idle line then Ok s else line_after s s.sizes line

-- a line's fault, with the line's number
abbrev pub in_line : {A : Type 0} → ℕ → Result A Flaw → Result A LineFault
in_line n (Ok x) = Ok x
in_line n (Err f) = Err (record { line = n; column = f.column; kind = f.kind })

-- continues with the next line if the one before has no fault
abbrev pub goes_on : {A B : Type 0} → Result A LineFault → (A → Result B LineFault) → Result B LineFault
goes_on (Ok x) f = f x
goes_on (Err e) f = Err e

-- a fault at the start of a line
abbrev pub fault_at_start : ℕ → FaultKind → LineFault
fault_at_start n kind = record { line = n; column = 1; kind = kind }

-- what was read, as a script; a fault if a block is open
abbrev pub closed : ℕ → ReadSoFar → Sizes → Option ℕ → Result ScriptValue LineFault
closed n s sizes (Some turns) = Err (fault_at_start n kinds.TimesWithoutEnd)
closed n s sizes None = Ok (script_of (config_of sizes s.layouts) s.commands)

-- what was read, as a script; a fault without a heap line or a layout line
abbrev pub whole : ℕ → ReadSoFar → Option Sizes → Result ScriptValue LineFault
whole n s None = Err (fault_at_start n kinds.HeapLineExpected)
whole n s (Some sizes) =
    if length s.layouts == 0 then Err (fault_at_start n kinds.LayoutLineExpected) else closed n s sizes s.turns

-- what was read, as a script, if line n would be the next
unfoldable pub finished : ℕ → ReadSoFar → Result ScriptValue LineFault
finished n s = whole n s s.sizes

-- the end of the text: the bytes after the last newline, which have to be empty
unfoldable pub last_line : ℕ → ReadSoFar → List ℕ → Result ScriptValue LineFault
last_line n s rest = if length rest == 0 then finished n s else
    goes_on (in_line n (line_in s rest)) (λ t.
    Err (record { line = n; column = length rest + 1; kind = kinds.NewlineExpected }))

-- the lines from number n on, of which the last has no newline
unfoldable pub lines_in : ℕ → ReadSoFar → List (List ℕ) → Result ScriptValue LineFault
lines_in n s [] = finished n s
lines_in n s (line ∷ []) = last_line n s line
lines_in n s (line ∷ next ∷ lines) = goes_on (in_line n (line_in s line)) (λ t. lines_in (n + 1) t (next ∷ lines))

-- the script that bytes are, or the first fault
unfoldable pub script_in : List ℕ → Result ScriptValue LineFault
script_in bytes = lines_in 1 nothing (slice_split newline bytes)

-- an error of a call that reads: out of memory, or the fault that reading defines
abbrev pub Fails : {Y : Type 0} → ParseFault → Result Y LineFault → Type 0
Fails faults.Memory read = Unit {0}
Fails faults.TooLong read = ⊥
Fails (faults.Line f) read = read ≡ Err f

-- a call returned what reading defines, as seen by `view`, unless it is out of memory
abbrev pub Gives : {X Y : Type 0} → (X → Y) → Result X ParseFault → Result Y LineFault → Type 0
Gives view (Ok x) read = read ≡ Ok (view x)
Gives view (Err e) read = Fails e read

-- a call that read a line has the effect that reading defines, unless it is out of memory
abbrev pub Follows : Result Unit Stop → ReadSoFar → Result ReadSoFar Flaw → Type 0
Follows (Ok u) new read = read ≡ Ok new
Follows (Err stops.Memory) new read = Unit {0}
Follows (Err (stops.Flaw f)) new read = read ≡ Err f

-- a fault at the start of the line
abbrev pub IsFlawAtStart : Stop → FaultKind → Type 0
IsFlawAtStart stop kind = stop ≡ stops.Flaw (flaw 0 kind)

-- the bytes begin with a line and a newline
pub record CutsLine (bytes line after : List ℕ) : Type 0 where
  pub line_is : line ≡ take (length line) bytes
  pub after_is : after ≡ drop (length line + 1) bytes
  pub newline_at : position newline bytes ≡ Some (length line)
  pub less : length line + 1 + length after ≡ length bytes

-- the bytes have no newline
abbrev pub HasNoNewline : List ℕ → Type 0
HasNoNewline bytes = position newline bytes ≡ None
