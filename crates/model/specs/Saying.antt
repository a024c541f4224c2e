-- The answers that plain values represent.
use Rattle.std.specs.Prelude.{Bool, true, false, Result, Ok, Err}
use Rattle.model.specs.declared.records.Buffer.{Buffer}
use Rattle.model.specs.declared.steps.Refusal.{Refusal}
use Rattle.model.specs.declared.steps.Answer.{Answer}
use Rattle.model.specs.declared.steps.Answer.TheVariants as answers
use Rattle.model.specs.declared.steps.Trap.{Trap}
use Rattle.model.specs.declared.steps.Trap.TheVariants as traps

-- a result whose value represents this answer; an error stays
abbrev pub said : {A : Type 0} → (A → Answer) → Result A Refusal → Result Answer Refusal
said answer (Ok value) = Ok (answer value)
said answer (Err e) = Err e

-- the answer of a step that returns nothing
abbrev pub done : Unit {0} → Answer
done u = answers.Done

-- the answer of a step that began a load
abbrev pub loaded : Unit {0} → Answer
loaded u = answers.Loaded

-- the answer with the place of a lent buffer
abbrev pub lent : Buffer → Answer
lent b = answers.Lent b.page b.next

-- the answer of a trap
abbrev pub trapped : Trap → Answer
trapped traps.Moved = answers.Moved
trapped traps.Marked = answers.Marked
trapped traps.Clear = answers.Clear

-- the answer that says whether the place of a load was written
abbrev pub healed : Bool → Answer
healed true = answers.Healed
healed false = answers.Changed

-- the answer that says whether a register was corrected
abbrev pub scrubbed : Bool → Answer
scrubbed true = answers.Moved
scrubbed false = answers.Clean
