-- Which number of a step names nothing.
use Rattle.std.specs.Prelude.{ℕ, ◌||◌, Option, Some, None, if◌then◌else◌}
use Rattle.model.specs.declared.steps.Step.{Step}
use Rattle.model.specs.declared.steps.Step.TheVariants as steps
use Rattle.model.specs.Outcome.{no_register}
use Rattle.model.specs.States.{HeapState}
use Rattle.collecting.specs.declared.numbers.Number.{Number}
use Rattle.collecting.specs.declared.numbers.Number.TheVariants as numbers

-- a register, if one of these two isn't there, else another number
abbrev pub register_or : HeapState → ℕ → ℕ → Number → Number
register_or h one two other = if no_register h one || no_register h two then numbers.Register else other

-- which number of a thread's step names nothing, if the step fails with BadIndex
abbrev pub wrong_number : HeapState → Step → Option Number
wrong_number h (steps.Take words) = Some numbers.Words
wrong_number h (steps.New target layout) = Some (register_or h target target numbers.Layout)
wrong_number h (steps.Load target object field) = Some (register_or h target object numbers.Field)
wrong_number h (steps.LoadGlobal target global) = Some (register_or h target target numbers.Global)
wrong_number h (steps.Store object field source) = Some (register_or h object source numbers.Field)
wrong_number h (steps.StoreGlobal global source) = Some (register_or h source source numbers.Global)
wrong_number h (steps.Datum object index) = Some (register_or h object object numbers.Datum)
wrong_number h (steps.SetDatum object index value) = Some (register_or h object object numbers.Datum)
wrong_number h (steps.Same left right) = Some numbers.Register
wrong_number h (steps.IsNull register) = Some numbers.Register
wrong_number h (steps.CopyReg target source) = Some numbers.Register
wrong_number h (steps.ClearReg register) = Some numbers.Register
wrong_number h (steps.Scrub register) = Some numbers.Register
wrong_number h _ = None
