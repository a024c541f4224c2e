-- The grammar: which bytes spell a configuration and commands.
use Rattle.std.specs.Prelude.{◌≡◌, ℕ, ◌^◌, ◌<◌, ◌≤◌, ◌≢◌, Bool, true, false, not, List, [], ◌∷◌, ◌++◌, length, map}
use Rattle.std.specs.Prelude.{filter, codes, ◌⊎◌}
use Rattle.std.specs.Fmt.{decimal}
use Rattle.std.specs.List.{join_with_byte, flat_map, repeat, All}
use Rattle.layout.specs.declared.shape.Layout.{Layout}
use Rattle.model.specs.declared.config.Config.{Config}
use Rattle.model.specs.declared.steps.Actor.{Actor}
use Rattle.model.specs.declared.steps.Actor.TheVariants.{Thread, Worker}
use Rattle.parser.specs.Limits.{IsScriptConfig}
use Rattle.parser.specs.declared.order.Order.{Order}
use Rattle.parser.specs.declared.order.Command.{Command}
use Rattle.parser.specs.declared.verbs.Kind.{Kind}
use Rattle.parser.specs.declared.verbs.Kind.TheVariants.{Nothing, Register, Number, ThreadName, Long, Address, Percent}
use Rattle.parser.specs.declared.verbs.Kinds.{Kinds}
use Rattle.model.specs.declared.limits.TheConstants.{MOST_HISTORY, MOST_FIELDS}
use Rattle.parser.specs.declared.limits.TheConstants.{MOST_BIRTHS}
use Rattle.parser.specs.declared.reading.TheConstants.{MOST_COMMANDS, MOST_TURNS}
use Rattle.parser.specs.Verbs.{row_of}
use Rattle.parser.specs.Words.{page_in, offset_in}
use Rattle.parser.specs.Orders.{does}
use Rattle.parser.specs.Reading.{ScriptValue, is_idle}

-- a line of words, with one space between each two
abbrev pub line_of : List (List ℕ) → List ℕ
line_of words = join_with_byte 32 words

-- an actor's word: a letter and its number
abbrev pub actor_word : Actor → List ℕ
actor_word (Thread t) = codes "t" ++ decimal t
actor_word (Worker w) = codes "w" ++ decimal w

-- an address's word: its page and its offset, with a period between them
abbrev pub address_word : ℕ → ℕ → List ℕ
address_word page offset = decimal page ++ (codes "." ++ decimal offset)

-- a register's word
abbrev pub register_word : ℕ → List ℕ
register_word r = codes "r" ++ decimal r

-- the words of an operand, by its kind
abbrev pub operand_word : Kind → ℕ → List (List ℕ)
operand_word Nothing n = []
operand_word Register n = register_word n ∷ []
operand_word Number n = decimal n ∷ []
operand_word ThreadName n = actor_word (Thread n) ∷ []
operand_word Long n = decimal n ∷ []
operand_word Address n = address_word (page_in n) (offset_in n) ∷ []
operand_word Percent n = decimal n ∷ []

-- the words of operands, then those of the numbers after them
abbrev pub operand_words : Kinds → Order → List (List ℕ)
operand_words kinds o =
    operand_word kinds.first o.first
    ++ (operand_word kinds.second o.second ++ (operand_word kinds.third o.third ++ (operand_word kinds.wide o.wide
    ++ map decimal o.more)))

-- the words of an order: the verb's, then those of its operands
abbrev pub order_words : Order → List (List ℕ)
order_words o = (row_of o.verb).text ∷ operand_words (row_of o.verb).kinds o

-- the line of a command
abbrev pub command_line_of : Command → List ℕ
command_line_of c = line_of (actor_word c.actor ∷ order_words c.order)

-- the line of a layout
abbrev pub layout_line_of : Layout → List ℕ
layout_line_of l = line_of (codes "layout" ∷ decimal l.refs ∷ decimal l.nums ∷ [])

-- the words of the sizes, each number after its name
abbrev pub size_words : Config → List (List ℕ)
size_words c =
    codes "words" ∷ decimal c.words ∷ codes "frames" ∷ decimal c.frames ∷ codes "pages" ∷ decimal c.pages
    ∷ codes "threads" ∷ decimal c.threads ∷ codes "workers" ∷ decimal c.workers
    ∷ codes "registers" ∷ decimal c.registers ∷ codes "globals" ∷ decimal c.globals ∷ []

-- a limit is spelled by its name and number, or omitted if it has its greatest value
abbrev pub SpellsLimit : List ℕ → ℕ → ℕ → List (List ℕ) → Type 0
SpellsLimit name most limit words = (words ≡ name ∷ decimal limit ∷ []) ⊎ ((words ≡ []) × (limit ≡ most))

-- a line is a heap line of the configuration
pub record SpellsHeap (line : List ℕ) (config : Config) : Type 0 where
  pub births : List (List ℕ)
  pub history : List (List ℕ)
  pub births_spelled : SpellsLimit (codes "births") MOST_BIRTHS config.births births
  pub history_spelled : SpellsLimit (codes "history") MOST_HISTORY config.history history
  pub line_is : line ≡ line_of (codes "heap" ∷ size_words config ++ births ++ history)

-- a part of a script: one command, or a block of commands with a number of turns
pub data Part : Type 0 where
  One : Command → Part
  Times : ℕ → List Command → Part

-- the line that begins a block
abbrev pub times_line_of : ℕ → List ℕ
times_line_of turns = line_of (codes "times" ∷ decimal turns ∷ [])

-- the lines of a part
abbrev pub part_lines : Part → List (List ℕ)
part_lines (One c) = command_line_of c ∷ []
part_lines (Times turns cs) = times_line_of turns ∷ map command_line_of cs ++ codes "end" ∷ []

-- the commands of a part: those of a block are repeated for each of its turns
abbrev pub part_commands : Part → List Command
part_commands (One c) = c ∷ []
part_commands (Times turns cs) = repeat turns cs

-- a block has at least one turn, and not too many
abbrev pub IsPart : Part → Type 0
IsPart (One c) = Unit {0}
IsPart (Times turns cs) = (1 ≤ turns) × (turns ≤ MOST_TURNS)

-- a line that is neither empty nor a comment
abbrev pub says_something : List ℕ → Bool
says_something line = not (is_idle line)

-- a line and its newline
abbrev pub with_newline : List ℕ → List ℕ
with_newline line = line ++ 10 ∷ []

-- a line has no newline
abbrev pub IsLine : List ℕ → Type 0
IsLine line = All (λ b. b ≢ 10) line

-- The bytes are lines that each end in a newline. Apart from empty lines and comments, they are a heap line of the
-- configuration, then a line for each layout, then the lines of parts: single commands and blocks. The script's
-- commands are those of the parts in order, a block's repeated for each of its turns.
pub record Spells (bytes : List ℕ) (script : ScriptValue) : Type 0 where
  pub lines : List (List ℕ)
  pub each : All IsLine lines
  pub bytes_are : bytes ≡ flat_map with_newline lines
  pub heap : List ℕ
  pub heap_spelled : SpellsHeap heap script.config
  pub parts : List Part
  pub turns : All IsPart parts
  pub commands_are : script.commands ≡ flat_map part_commands parts
  pub said : filter says_something lines ≡ heap ∷ map layout_line_of script.config.layouts ++ flat_map part_lines parts

-- the numbers of a layout are within their limits
pub record IsLayout (l : Layout) : Type 0 where
  pub refs : l.refs ≤ MOST_FIELDS
  pub nums : l.nums ≤ MOST_FIELDS

-- an actor exists
abbrev pub IsActor : Config → Actor → Type 0
IsActor config (Thread t) = t < config.threads
IsActor config (Worker w) = w < config.workers

-- the actor does the order's verb
abbrev pub IsFor : Actor → Order → Type 0
IsFor actor order = does actor order.verb ≡ true

-- the bounds of operands: the words of a page, the threads and the registers
pub record Bounds : Type 0 where
  pub words : ℕ
  pub threads : ℕ
  pub registers : ℕ

-- the bounds of a configuration
abbrev pub bounds_of : Config → Bounds
bounds_of c = record { words = c.words; threads = c.threads; registers = c.registers }

-- an operand is one of its kind: a register or a thread exists, a number is in range, and an address is in range and
-- has an offset within a page
abbrev pub IsOperand : Bounds → Kind → ℕ → Type 0
IsOperand bounds Nothing n = n ≡ 0
IsOperand bounds Register n = n < bounds.registers
IsOperand bounds Number n = n < 2 ^ 32
IsOperand bounds ThreadName n = n < bounds.threads
IsOperand bounds Long n = n < 2 ^ 64
IsOperand bounds Address n = (n < 2 ^ 64) × (offset_in n < bounds.words)
IsOperand bounds Percent n = n ≤ 100

-- there are more numbers only if the verb allows them, and each has 32 bits
abbrev pub AreMore : Bool → List ℕ → Type 0
AreMore false more = more ≡ []
AreMore true more = All (λ n. n < 2 ^ 32) more

-- each operand of an order is one of its kind, and so are the numbers after them
pub record IsOrder (bounds : Bounds) (o : Order) : Type 0 where
  pub first : IsOperand bounds (row_of o.verb).kinds.first o.first
  pub second : IsOperand bounds (row_of o.verb).kinds.second o.second
  pub third : IsOperand bounds (row_of o.verb).kinds.third o.third
  pub wide : IsOperand bounds (row_of o.verb).kinds.wide o.wide
  pub more : AreMore (row_of o.verb).kinds.more o.more

-- a command is one of the configuration
pub record IsCommand (config : Config) (c : Command) : Type 0 where
  pub actor : IsActor config c.actor
  pub own : IsFor c.actor c.order
  pub order : IsOrder (bounds_of config) c.order

-- a script within all limits
pub record IsScript (script : ScriptValue) : Type 0 where
  pub config : IsScriptConfig script.config
  pub layouts : All IsLayout script.config.layouts
  pub commands : All (IsCommand script.config) script.commands
  pub count : length script.commands ≤ MOST_COMMANDS
