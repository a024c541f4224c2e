-- Steps that are done at once, or not at all.
use Rattle.std.specs.Prelude.{◌≡◌, ℕ, Bool, true, false, Ok}
use Rattle.model.specs.Saying.{done}
use Rattle.model.specs.declared.steps.Step.{Step}
use Rattle.model.specs.States.{HeapState}
use Rattle.cycle.specs.Mutating.{DoesThread, ThreadStands}

-- true if a step of thread t is done, and false if nothing is
abbrev pub MayStep : Bool → HeapState → ℕ → Step → HeapState → Type 0
MayStep true h t step g = DoesThread done h t step (Ok tt) g × ThreadStands done h t step (Ok tt) g
MayStep false h t step g = g ≡ h
