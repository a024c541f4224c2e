-- The commands: their words and operands, as a table.
use Rattle.std.specs.Prelude.{ℕ, Bool, true, false, List, Option, codes, find}
use Rattle.std.specs.Str.{bytes_eq}
use Rattle.parser.specs.declared.verbs.Verb.{Verb}
use Rattle.parser.specs.declared.verbs.Verb.TheVariants as verbs
use Rattle.parser.specs.declared.verbs.Kind.{Kind}
use Rattle.parser.specs.declared.verbs.Kind.TheVariants.{Nothing, Register, Number, ThreadName, Long, Address, Percent}
use Rattle.parser.specs.declared.verbs.Kinds.{Kinds}
use Rattle.parser.specs.declared.verbs.TheConstants.{VERBS}

-- a verb's word, and the kinds of its operands
pub record Row : Type 0 where
  pub text : List ℕ
  pub kinds : Kinds

abbrev pub row : List ℕ → Kind → Kind → Kind → Kind → Row
row text first second third wide =
    record { text = text; kinds = record { first = first; second = second; third = third; wide = wide; more = false } }

-- a verb with one operand, and more numbers after it
abbrev pub listing : List ℕ → Kind → Row
listing text first = record {
  text = text;
  kinds = record { first = first; second = Nothing; third = Nothing; wide = Nothing; more = true };
}

-- a command's word and what follows it: up to three operands of 32 bits, then up to one of 64, then, for `listing`,
-- any number of numbers of 32 bits
abbrev pub row_of : Verb → Row
row_of verbs.Take = row (codes "take") Number Nothing Nothing Nothing
row_of verbs.Give = row (codes "give") Nothing Nothing Nothing Nothing
row_of verbs.New = row (codes "new") Register Number Nothing Nothing
row_of verbs.Load = row (codes "load") Register Register Number Nothing
row_of verbs.LoadGlobal = row (codes "loadg") Register Number Nothing Nothing
row_of verbs.Trap = row (codes "trap") Nothing Nothing Nothing Nothing
row_of verbs.Heal = row (codes "heal") Nothing Nothing Nothing Nothing
row_of verbs.Finish = row (codes "finish") Nothing Nothing Nothing Nothing
row_of verbs.Store = row (codes "store") Register Number Register Nothing
row_of verbs.StoreGlobal = row (codes "storeg") Number Register Nothing Nothing
row_of verbs.Datum = row (codes "datum") Register Number Nothing Nothing
row_of verbs.Set = row (codes "set") Register Number Nothing Long
row_of verbs.Same = row (codes "same") Register Register Nothing Nothing
row_of verbs.Null = row (codes "null") Register Nothing Nothing Nothing
row_of verbs.Move = row (codes "mov") Register Register Nothing Nothing
row_of verbs.Clear = row (codes "clear") Register Nothing Nothing Nothing
row_of verbs.Cross = row (codes "cross") Nothing Nothing Nothing Nothing
row_of verbs.Scrub = row (codes "scrub") Register Nothing Nothing Nothing
row_of verbs.Park = row (codes "park") Nothing Nothing Nothing Nothing
row_of verbs.Unpark = row (codes "unpark") Nothing Nothing Nothing Nothing
row_of verbs.Get = row (codes "get") Register Register Number Nothing
row_of verbs.GetGlobal = row (codes "getg") Register Number Nothing Nothing
row_of verbs.Mark = row (codes "mark") Nothing Nothing Nothing Nothing
row_of verbs.EndMark = row (codes "endmark") Nothing Nothing Nothing Nothing
row_of verbs.Pick = row (codes "pick") Nothing Nothing Nothing Address
row_of verbs.Scan = row (codes "scan") Nothing Nothing Nothing Nothing
row_of verbs.ScanGlobal = row (codes "scang") Number Nothing Nothing Nothing
row_of verbs.CrossFor = row (codes "crossfor") ThreadName Nothing Nothing Nothing
row_of verbs.Drain = row (codes "drain") Nothing Nothing Nothing Nothing
row_of verbs.Protect = listing (codes "protect") Number
row_of verbs.Copy = row (codes "copy") Number Number Nothing Nothing
row_of verbs.CopyAll = row (codes "copyall") Number Nothing Nothing Nothing
row_of verbs.Release = row (codes "release") Number Nothing Nothing Nothing
row_of verbs.Cycle = row (codes "cycle") Percent Nothing Nothing Nothing
row_of verbs.Roll = row (codes "roll") Percent Nothing Nothing Nothing

-- workers do these verbs, threads all others
abbrev pub is_for_worker : Verb → Bool
is_for_worker verbs.Mark = true
is_for_worker verbs.EndMark = true
is_for_worker verbs.Pick = true
is_for_worker verbs.Scan = true
is_for_worker verbs.ScanGlobal = true
is_for_worker verbs.CrossFor = true
is_for_worker verbs.Drain = true
is_for_worker verbs.Protect = true
is_for_worker verbs.Copy = true
is_for_worker verbs.CopyAll = true
is_for_worker verbs.Release = true
is_for_worker verbs.Cycle = true
is_for_worker verbs.Roll = true
is_for_worker other = false

-- the verb of a word
unfoldable pub verb_of : List ℕ → Option Verb
verb_of word = find (λ verb. bytes_eq word (row_of verb).text) VERBS

-- an operand has 32 bits
abbrev pub IsSmall : Kind → Type 0
IsSmall Long = ⊥
IsSmall Address = ⊥
IsSmall other = Unit {0}

-- an operand has 64 bits
abbrev pub IsWide : Kind → Type 0
IsWide Register = ⊥
IsWide Number = ⊥
IsWide ThreadName = ⊥
IsWide Percent = ⊥
IsWide other = Unit {0}
