-- The meaning of short forms.
use Rattle.std.specs.Prelude.{◌≡◌, ℕ, Option, Some, None}
use Rattle.model.specs.declared.steps.Step.{Step}
use Rattle.model.specs.declared.steps.Step.TheVariants as steps
use Rattle.model.specs.declared.steps.Answer.{Answer}
use Rattle.model.specs.declared.steps.Answer.TheVariants as answers
use Rattle.entries.specs.declared.event.Event.{Event}
use Rattle.entries.specs.declared.event.Event.TheVariants as events

-- the step of a short form; none if the entry is stored in full
abbrev pub step_in : Event → Option Step
step_in (events.Take words page offset) = Some (steps.Take words)
step_in events.GiveBack = Some steps.GiveBack
step_in (events.New target layout birth) = Some (steps.New target layout)
step_in (events.Load target object field) = Some (steps.Load target object field)
step_in (events.LoadGlobal target global) = Some (steps.LoadGlobal target global)
step_in events.TrapMoved = Some steps.Trap
step_in events.TrapMarked = Some steps.Trap
step_in events.TrapClear = Some steps.Trap
step_in events.HealHealed = Some steps.Heal
step_in events.HealChanged = Some steps.Heal
step_in events.Finish = Some steps.Finish
step_in (events.Store object field source) = Some (steps.Store object field source)
step_in (events.StoreGlobal global source) = Some (steps.StoreGlobal global source)
step_in (events.Datum object index value) = Some (steps.Datum object index)
step_in (events.SetDatum object index value) = Some (steps.SetDatum object index value)
step_in (events.Same left right same) = Some (steps.Same left right)
step_in (events.IsNull r null) = Some (steps.IsNull r)
step_in (events.CopyReg target source) = Some (steps.CopyReg target source)
step_in (events.ClearReg r) = Some (steps.ClearReg r)
step_in events.Cross = Some steps.Cross
step_in (events.ScrubMoved r) = Some (steps.Scrub r)
step_in (events.ScrubClean r) = Some (steps.Scrub r)
step_in events.Park = Some steps.Park
step_in events.Unpark = Some steps.Unpark
step_in events.StartMark = Some steps.StartMark
step_in (events.Pick page offset) = Some (steps.Pick page offset)
step_in events.ScanScanned = Some steps.ScanField
step_in events.ScanFinished = Some steps.ScanField
step_in (events.ScanGlobal g) = Some (steps.ScanGlobal g)
step_in (events.EndMark live retired) = Some steps.EndMark
step_in (events.Copy page entry to offset) = Some (steps.Copy page entry)
step_in (events.CopyPage page copied) = Some (steps.CopyPage page)
step_in (events.Release page free) = Some (steps.Release page)
step_in (events.CrossFor t) = Some (steps.CrossFor t)
step_in (events.Whole i) = None

-- the answer of a short form
abbrev pub answer_in : Event → Answer
answer_in (events.Take words page offset) = answers.Lent page offset
answer_in (events.New target layout birth) = answers.Birth birth
answer_in (events.Load target object field) = answers.Loaded
answer_in (events.LoadGlobal target global) = answers.Loaded
answer_in events.TrapMoved = answers.Moved
answer_in events.TrapMarked = answers.Marked
answer_in events.TrapClear = answers.Clear
answer_in events.HealHealed = answers.Healed
answer_in events.HealChanged = answers.Changed
answer_in (events.Datum object index value) = answers.Datum value
answer_in (events.Same left right same) = answers.Truth same
answer_in (events.IsNull r null) = answers.Truth null
answer_in (events.ScrubMoved r) = answers.Moved
answer_in (events.ScrubClean r) = answers.Clean
answer_in events.ScanScanned = answers.Scanned
answer_in events.ScanFinished = answers.Finished
answer_in (events.EndMark live retired) = answers.Ended live retired
answer_in (events.Copy page entry to offset) = answers.MovedTo to offset
answer_in (events.CopyPage page copied) = answers.CopiedPage copied
answer_in (events.Release page free) = answers.Released free
answer_in _ = answers.Done

-- the place of an entry that is stored in full
abbrev pub place_in : Event → ℕ
place_in (events.Whole i) = i
place_in _ = 0

-- a short form of a step with its answer
pub record IsShort (step : Step) (answer : Answer) (event : Event) : Type 0 where
  pub step_is : step_in event ≡ Some step
  pub answer_is : answer_in event ≡ answer
