-- Commands.
use Rattle.std.specs.Prelude.{◌≡◌, ℕ, zero, suc, ◌+◌, ◌==◌, ◌&&◌, nat_lt, not, Bool, true, false, List, [], ◌∷◌, length}
use Rattle.std.specs.Prelude.{Option, Some, None, Result, Ok, Err, if◌then◌else◌}
use Rattle.std.specs.List.{list_any}
use Rattle.model.specs.declared.steps.Actor.{Actor}
use Rattle.model.specs.declared.steps.Actor.TheVariants.{Thread, Worker}
use Rattle.model.specs.declared.steps.Step.{Step}
use Rattle.model.specs.declared.steps.Step.TheVariants as steps
use Rattle.parser.specs.declared.fault.FaultKind.TheVariants as kinds
use Rattle.parser.specs.declared.fault.Flaw.{Flaw}
use Rattle.parser.specs.declared.fault.Stop.{Stop}
use Rattle.parser.specs.declared.fault.Stop.TheVariants as stops
use Rattle.parser.specs.declared.heading.Sizes.{Sizes}
use Rattle.parser.specs.declared.order.Order.{Order}
use Rattle.parser.specs.declared.order.Command.{Command}
use Rattle.parser.specs.declared.order.Then.{Then}
use Rattle.parser.specs.declared.order.Then.TheVariants as thens
use Rattle.parser.specs.declared.verbs.Kind.{Kind}
use Rattle.parser.specs.declared.verbs.Kind.TheVariants.{Nothing, Register, Number, ThreadName, Long, Address, Percent}
use Rattle.parser.specs.declared.verbs.Verb.{Verb}
use Rattle.parser.specs.declared.verbs.Verb.TheVariants as verbs
use Rattle.parser.specs.Verbs.{row_of, verb_of, is_for_worker}
use Rattle.parser.specs.Words.{◌>>=◌, or_flaw, flaw, word_or, number_at, small_at, named_at, address_at, end_at}
use Rattle.parser.specs.Words.{page_in, offset_in}

-- the step of a verb with operands and more numbers; for `get`, `getg`, `drain`, `cycle` and `roll` the first step
abbrev pub step_with : Verb → ℕ → ℕ → ℕ → ℕ → List ℕ → Step
step_with verbs.Take n b c d e = steps.Take n
step_with verbs.Give a b c d e = steps.GiveBack
step_with verbs.New target layout c d e = steps.New target layout
step_with verbs.Load target object index d e = steps.Load target object index
step_with verbs.LoadGlobal target global c d e = steps.LoadGlobal target global
step_with verbs.Trap a b c d e = steps.Trap
step_with verbs.Heal a b c d e = steps.Heal
step_with verbs.Finish a b c d e = steps.Finish
step_with verbs.Store object index source d e = steps.Store object index source
step_with verbs.StoreGlobal global source c d e = steps.StoreGlobal global source
step_with verbs.Datum object index c d e = steps.Datum object index
step_with verbs.Set object index c value e = steps.SetDatum object index value
step_with verbs.Same left right c d e = steps.Same left right
step_with verbs.Null r b c d e = steps.IsNull r
step_with verbs.Move target source c d e = steps.CopyReg target source
step_with verbs.Clear r b c d e = steps.ClearReg r
step_with verbs.Cross a b c d e = steps.Cross
step_with verbs.Scrub r b c d e = steps.Scrub r
step_with verbs.Park a b c d e = steps.Park
step_with verbs.Unpark a b c d e = steps.Unpark
step_with verbs.Get target object index d e = steps.Load target object index
step_with verbs.GetGlobal target global c d e = steps.LoadGlobal target global
step_with verbs.Mark a b c d e = steps.StartMark
step_with verbs.EndMark a b c d e = steps.EndMark
step_with verbs.Pick a b c address e = steps.Pick (page_in address) (offset_in address)
step_with verbs.Scan a b c d e = steps.ScanField
step_with verbs.ScanGlobal global b c d e = steps.ScanGlobal global
step_with verbs.CrossFor thread b c d e = steps.CrossFor thread
step_with verbs.Drain a b c d e = steps.ScanField
step_with verbs.Protect page b c d others = steps.Protect (page ∷ others)
step_with verbs.Copy page entry c d e = steps.Copy page entry
step_with verbs.CopyAll page b c d e = steps.CopyPage page
step_with verbs.Release page b c d e = steps.Release page
step_with verbs.Cycle percent b c d e = steps.StartMark
step_with verbs.Roll percent b c d e = steps.StartMark

-- the step of an order
abbrev pub step_of : Order → Step
step_of o = step_with o.verb o.first o.second o.third o.wide o.more

-- what follows the step of a verb
abbrev pub then_with : Verb → Then
then_with verbs.Get = thens.LoadsEnd
then_with verbs.GetGlobal = thens.LoadsEnd
then_with verbs.Drain = thens.Drains
then_with verbs.Cycle = thens.Cycles
then_with verbs.Roll = thens.Rolls
then_with other = thens.Nothing

-- what follows the step of an order
abbrev pub then_of : Order → Then
then_of o = then_with o.verb

-- a command is a cycle, or the first half of one
abbrev pub is_cycles : Then → Bool
is_cycles thens.Cycles = true
is_cycles thens.Rolls = true
is_cycles other = false

-- some of these commands need a run by threads
abbrev pub needs_threads : List Command → Bool
needs_threads cs = list_any (λ (c : Command). is_cycles (then_of c.order)) cs

-- a run by threads does this command of an actor: all commands of threads, and cycles of worker 0
abbrev pub is_raced : Actor → Then → Bool
is_raced (Thread t) next = true
is_raced (Worker w) next = (w == 0) && is_cycles next

-- a run by threads doesn't do some of these commands
abbrev pub needs_schedule : List Command → Bool
needs_schedule cs = list_any (λ (c : Command). not (is_raced c.actor (then_of c.order))) cs

-- an actor does a verb
abbrev pub does : Actor → Verb → Bool
does (Thread t) verb = not (is_for_worker verb)
does (Worker w) verb = is_for_worker verb

-- a verb, if the actor does it
abbrev pub done_by : Actor → Option Verb → Option Verb
done_by actor None = None
done_by actor (Some verb) = if does actor verb then Some verb else None

-- the verb of a word, if the actor does it
abbrev pub verb_in : Actor → List ℕ → Option Verb
verb_in actor word = done_by actor (verb_of word)

-- a register that exists
unfoldable pub register_at : Sizes → List ℕ → ℕ → Result (ℕ × ℕ) Flaw
register_at sizes line at = named_at line at 114 sizes.registers kinds.NoSuchRegister

-- a thread that exists
abbrev pub thread_at : Sizes → List ℕ → ℕ → Result (ℕ × ℕ) Flaw
thread_at sizes line at = named_at line at 116 sizes.threads kinds.NoSuchActor

-- an operand of a kind
unfoldable pub operand_at : Sizes → List ℕ → ℕ → Kind → Result (ℕ × ℕ) Flaw
operand_at sizes line at Nothing = Ok (0, at)
operand_at sizes line at Register = register_at sizes line at
operand_at sizes line at Number = small_at line at
operand_at sizes line at ThreadName = thread_at sizes line at
operand_at sizes line at Long = number_at line at 0 18446744073709551615
operand_at sizes line at Address = address_at line at sizes.words
operand_at sizes line at Percent = number_at line at 0 100

-- numbers of 32 bits from a place to the end of the line, at most n
unfoldable pub numbers_by : ℕ → List ℕ → ℕ → Result (List ℕ × ℕ) Flaw
numbers_by zero line at = Ok ([], at)
numbers_by (suc n) line at = if nat_lt (length line) at then Ok ([], at) else (do
  number ← small_at line at
  others ← numbers_by n line number.1
  Ok (number.0 ∷ others.0, others.1))

-- numbers of 32 bits from a place to the end of the line, which has at most one word more than it has bytes
unfoldable pub numbers_at : List ℕ → ℕ → Result (List ℕ × ℕ) Flaw
numbers_at line at = numbers_by (length line + 1) line at

-- more numbers from a place on, if there may be some
abbrev pub more_at : Bool → List ℕ → ℕ → Result (List ℕ × ℕ) Flaw
more_at false line at = Ok ([], at)
more_at true line at = numbers_at line at

-- the first byte; 0 if there is none
abbrev pub first_byte : List ℕ → ℕ
first_byte [] = 0
first_byte (b ∷ bs) = b

-- the actor at the beginning of a line
unfoldable pub actor_at : Sizes → List ℕ → Result (Actor × ℕ) Flaw
actor_at sizes line =
    if first_byte line == 119 then (do
      w ← named_at line 0 119 sizes.workers kinds.NoSuchActor
      Ok (Worker w.0, w.1)) else (do
        t ← thread_at sizes line 0
        Ok (Thread t.0, t.1))

-- the order of a verb with operands and more numbers
abbrev pub order_of : Verb → ℕ → ℕ → ℕ → ℕ → List ℕ → Order
order_of verb first second third wide more =
    record { verb = verb; first = first; second = second; third = third; wide = wide; more = more }

-- the order of a verb, with its operands and the numbers after them
unfoldable pub operands_at : Sizes → List ℕ → ℕ → Verb → Result (Order × ℕ) Flaw
operands_at sizes line at verb = do
  first ← operand_at sizes line at (row_of verb).kinds.first
  second ← operand_at sizes line first.1 (row_of verb).kinds.second
  third ← operand_at sizes line second.1 (row_of verb).kinds.third
  wide ← operand_at sizes line third.1 (row_of verb).kinds.wide
  more ← more_at (row_of verb).kinds.more line wide.1
  Ok (order_of verb first.0 second.0 third.0 wide.0 more.0, more.1)

-- an order, from the place after the actor to the end of the line
unfoldable pub order_at : Sizes → List ℕ → Actor → ℕ → Result Order Flaw
order_at sizes line actor at = do
  word ← word_or line at kinds.UnknownWord
  verb ← or_flaw (verb_in actor word.0) (flaw at kinds.UnknownWord)
  order ← operands_at sizes line word.1 verb
  _ ← end_at line order.1
  Ok order.0

-- a call returned what reading defines, unless it is out of memory
abbrev pub Finds : {A : Type 0} → Result A Stop → Result A Flaw → Type 0
Finds (Ok x) read = read ≡ Ok x
Finds (Err stops.Memory) read = Unit {0}
Finds (Err (stops.Flaw f)) read = read ≡ Err f
