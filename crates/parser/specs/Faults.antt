-- The first fault of a text.
use Rattle.std.specs.Prelude.{◌≡◌, ℕ, ◌+◌, ◌<◌, ◌≢◌, true, false, List, [], ◌∷◌, ◌++◌, length, codes, Result, Ok, Err}
use Rattle.std.specs.Prelude.{filter, ◌⊎◌}
use Rattle.std.specs.List.{flat_map, All}
use Rattle.parser.specs.Limits.{IsScriptConfig}
use Rattle.parser.specs.declared.fault.FaultKind.{FaultKind}
use Rattle.parser.specs.declared.fault.FaultKind.TheVariants as kinds
use Rattle.parser.specs.declared.fault.LineFault.{LineFault}
use Rattle.parser.specs.declared.fault.ParseFault.{ParseFault}
use Rattle.parser.specs.declared.fault.ParseFault.TheVariants as faults
use Rattle.parser.specs.declared.reading.TheConstants.{MOST_COMMANDS}
use Rattle.parser.specs.Words.{is_number}
use Rattle.parser.specs.Orders.{first_byte}
use Rattle.parser.specs.Reading.{ScriptValue}
use Rattle.parser.specs.Spelling.{line_of, with_newline, says_something, IsLine, IsLayout, IsCommand, IsScript, Spells}

-- the text of lines: each ends in a newline
abbrev pub text_of : List (List ℕ) → List ℕ
text_of lines = flat_map with_newline lines

-- The bytes begin a script: with some bytes after them they spell one within all limits.
pub record BeginsScript (bytes : List ℕ) : Type 0 where
  pub more : List ℕ
  pub script : ScriptValue
  pub valid : IsScript script
  pub spelled : Spells (bytes ++ more) script

-- The lines end inside a block: with its `end` after them they spell a script, except that it may have too many
-- commands.
pub record EndInBlock (lines : List (List ℕ)) : Type 0 where
  pub script : ScriptValue
  pub config : IsScriptConfig script.config
  pub layouts : All IsLayout script.config.layouts
  pub commands : All (IsCommand script.config) script.commands
  pub spelled : Spells (text_of (lines ++ codes "end" ∷ [])) script

-- the lines end inside a block with too many commands, counting each turn
abbrev pub EndInLargeBlock : List (List ℕ) → Type 0
EndInLargeBlock lines = (block : EndInBlock lines) × (MOST_COMMANDS < length block.script.commands)

-- Lines without a fault begin a script; or they end inside a block that is too large: its commands are counted only
-- at its `end`, so there is no fault yet.
abbrev pub HaveNoFault : List (List ℕ) → Type 0
HaveNoFault lines = BeginsScript (text_of lines) ⊎ EndInLargeBlock lines

-- a line ends here: with a newline, or with the text
abbrev pub IsLineEnd : List ℕ → Type 0
IsLineEnd behind = (behind ≡ []) ⊎ ((after : List ℕ) × (behind ≡ 10 ∷ after))

-- a word begins after these bytes of a line: they are empty, or end in a space
abbrev pub IsWordStart : List ℕ → Type 0
IsWordStart front = (front ≡ []) ⊎ ((before : List ℕ) × (front ≡ before ++ 32 ∷ []))

-- a word ends before these bytes of a line: they are empty, or begin with a space
abbrev pub IsWordEnd : List ℕ → Type 0
IsWordEnd back = (back ≡ []) ⊎ ((after : List ℕ) × (back ≡ 32 ∷ after))

-- the byte after a word, if these bytes of its line follow it: a space, or the newline after the line
abbrev pub byte_behind : List ℕ → ℕ
byte_behind [] = 10
byte_behind (b ∷ bs) = b

-- the word is this letter and a number
abbrev pub IsNameOf : List ℕ → List ℕ → Type 0
IsNameOf letter word = (digits : List ℕ) × ((word ≡ letter ++ digits) × (is_number digits ≡ true))

-- the word is two numbers with a period between them
abbrev pub HasTwoNumbers : List ℕ → Type 0
HasTwoNumbers word = (page : List ℕ) × ((offset : List ℕ) × ((word ≡ page ++ (codes "." ++ offset))
    × ((is_number page ≡ true) × (is_number offset ≡ true))))

-- The condition of each kind of fault at a word (an empty one if it is missing), with the bytes of the line before
-- it. It leaves open which words are known, which numbers are in range, which actors and registers exist, and how
-- many commands are too many.
abbrev pub IsWrongWord : FaultKind → List ℕ → List ℕ → Type 0
IsWrongWord kinds.HeapLineExpected front word = (front ≡ []) × (word ≢ codes "heap")
IsWrongWord kinds.LayoutLineExpected front word = (front ≡ []) × (word ≢ codes "layout")
IsWrongWord kinds.UnknownWord front word = Unit {0}
IsWrongWord kinds.NumberExpected front word = is_number word ≡ false
IsWrongWord kinds.NumberOutOfRange front word = (is_number word ≡ true) ⊎ HasTwoNumbers word
IsWrongWord kinds.LayoutTooLarge front word = is_number word ≡ true
IsWrongWord kinds.NoSuchActor front word = IsNameOf (codes "t") word ⊎ ((front ≡ []) × IsNameOf (codes "w") word)
IsWrongWord kinds.NoSuchRegister front word = IsNameOf (codes "r") word
IsWrongWord kinds.EndOfLineExpected front word = front ≢ []
IsWrongWord kinds.NewlineExpected front word = ⊥
IsWrongWord kinds.CycleNeedsThreads front word = ⊥
IsWrongWord kinds.EndWithoutTimes front word = (front ≡ []) × (word ≡ codes "end")
IsWrongWord kinds.TimesWithoutEnd front word = ⊥
IsWrongWord kinds.TooManyCommands front word = front ≡ []

-- A word of a line, with the bytes before and after it; or the line's end, if a word is missing.
pub record IsWordOf (line front word back : List ℕ) : Type 0 where
  pub line_is : line ≡ front ++ (word ++ back)
  pub no_space : All (λ b. b ≢ 32) word
  pub starts : IsWordStart front ⊎ ((word ≡ []) × (back ≡ []))
  pub ends : IsWordEnd back

-- a line that doesn't begin with `l`: no layout line
abbrev pub HasOtherStart : List ℕ → Type 0
HasOtherStart line = first_byte line ≢ 108

-- A line is right up to a word, by the bytes before it: some line with the same words up to there, and maybe more
-- words, has no fault after the lines before.
pub record IsRightUpTo (before : List (List ℕ)) (front : List ℕ) : Type 0 where
  pub words : List (List ℕ)
  pub more : List (List ℕ)
  pub front_is : (front ≡ line_of words ++ 32 ∷ []) ⊎ (front ≡ line_of words)
  pub is_line : IsLine (line_of (words ++ more))
  pub faultless : HaveNoFault (before ++ line_of (words ++ more) ∷ [])

-- The fault is in a line, at a word of it: the lines before have none, and the bytes up to the word's end and the
-- byte after it begin no script.
pub record StandsInLine (bytes : List ℕ) (fault : LineFault) : Type 0 where
  pub before : List (List ℕ)
  pub line : List ℕ
  pub behind : List ℕ
  pub each : All IsLine before
  pub is_line : IsLine line
  pub bytes_are : bytes ≡ text_of before ++ (line ++ behind)
  pub ends : IsLineEnd behind
  pub front : List ℕ
  pub word : List ℕ
  pub back : List ℕ
  pub is_word : IsWordOf line front word back
  pub number : fault.line ≡ length before + 1
  pub column : fault.column ≡ length front + 1
  pub wrong : IsWrongWord fault.kind front word
  pub faultless : HaveNoFault before
  pub right : front ≢ [] → HasOtherStart line → IsRightUpTo before front
  pub never : BeginsScript (text_of before ++ (front ++ (word ++ byte_behind back ∷ []))) → ⊥

-- what is missing after lines: the heap line if all are empty or comments; a layout line if only the heap line isn't;
-- an `end` if a block is open
abbrev pub IsMissingBehind : List (List ℕ) → FaultKind → Type 0
IsMissingBehind lines kinds.HeapLineExpected = filter says_something lines ≡ []
IsMissingBehind lines kinds.LayoutLineExpected = (heap : List ℕ) × (filter says_something lines ≡ heap ∷ [])
IsMissingBehind lines kinds.TimesWithoutEnd = EndInBlock lines
IsMissingBehind lines other = ⊥

-- The fault is at the text's end: its lines have none, and something is missing after them.
pub record StandsAtEnd (bytes : List ℕ) (fault : LineFault) : Type 0 where
  pub lines : List (List ℕ)
  pub each : All IsLine lines
  pub bytes_are : bytes ≡ text_of lines
  pub number : fault.line ≡ length lines + 1
  pub column : fault.column ≡ 1
  pub missing : IsMissingBehind lines fault.kind
  pub faultless : HaveNoFault lines

-- The text ends inside a line, whose only fault is that its newline is missing.
pub record LacksNewline (bytes : List ℕ) (fault : LineFault) : Type 0 where
  pub before : List (List ℕ)
  pub line : List ℕ
  pub each : All IsLine before
  pub is_line : IsLine line
  pub some : line ≢ []
  pub bytes_are : bytes ≡ text_of before ++ line
  pub number : fault.line ≡ length before + 1
  pub column : fault.column ≡ length line + 1
  pub kind : fault.kind ≡ kinds.NewlineExpected
  pub faultless : HaveNoFault (before ++ line ∷ [])

-- A first fault is in a line, or at the text's end, or a missing newline there; and the text is no script.
pub record IsFirstFault (bytes : List ℕ) (fault : LineFault) : Type 0 where
  pub stands : (StandsInLine bytes fault ⊎ StandsAtEnd bytes fault) ⊎ LacksNewline bytes fault
  pub no_script : (s : ScriptValue) → IsScript s → Spells bytes s → ⊥

-- a fault that is reported is the first one
abbrev pub TellsFirst : {X : Type 0} → List ℕ → Result X ParseFault → Type 0
TellsFirst bytes (Err (faults.Line fault)) = IsFirstFault bytes fault
TellsFirst bytes (Err faults.TooLong) = Unit {0}
TellsFirst bytes (Err faults.Memory) = Unit {0}
TellsFirst bytes (Ok s) = Unit {0}

-- no lines of the text, the last of which may lack its newline, end inside a block with too many commands
abbrev pub HasNoLargeBlock : List ℕ → Type 0
HasNoLargeBlock bytes = (lines : List (List ℕ)) (more : List ℕ) → bytes ++ 10 ∷ [] ≡ text_of lines ++ more
    → EndInLargeBlock lines → ⊥

-- all first faults of a text are in one line
abbrev pub FaultsShareLine : List ℕ → LineFault → LineFault → Type 0
FaultsShareLine bytes one other = HasNoLargeBlock bytes → IsFirstFault bytes one → IsFirstFault bytes other
    → one.line ≡ other.line
