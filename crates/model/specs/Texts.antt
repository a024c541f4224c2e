-- The texts of errors.
use Rattle.std.specs.Prelude.{ℕ, List, ◌++◌, codes}
use Rattle.std.specs.Fmt.{decimal}
use Rattle.model.specs.declared.steps.Refusal.{Refusal}
use Rattle.model.specs.declared.steps.Refusal.TheVariants as refusals

-- the text of an error: its name, then its numbers
abbrev pub refusal_text : Refusal → List ℕ
refusal_text refusals.NoActor = codes "NoActor"
refusal_text refusals.BadIndex = codes "BadIndex"
refusal_text refusals.Parked = codes "Parked"
refusal_text refusals.NotParked = codes "NotParked"
refusal_text refusals.Busy = codes "Busy"
refusal_text refusals.NotBusy = codes "NotBusy"
refusal_text refusals.Null = codes "Null"
refusal_text refusals.Stall = codes "Stall"
refusal_text refusals.Stale = codes "Stale"
refusal_text refusals.NoRoom = codes "NoRoom"
refusal_text refusals.HasBuffer = codes "HasBuffer"
refusal_text refusals.NoPages = codes "NoPages"
refusal_text refusals.AlreadyCrossed = codes "AlreadyCrossed"
refusal_text refusals.NotTodo = codes "NotTodo"
refusal_text refusals.Taken = codes "Taken"
refusal_text refusals.TodoLeft = codes "TodoLeft"
refusal_text refusals.Copied = codes "Copied"
refusal_text refusals.Births = codes "Births"
refusal_text refusals.HistoryFull = codes "HistoryFull"
refusal_text refusals.Memory = codes "Memory"
refusal_text refusals.Phase = codes "Phase"
refusal_text (refusals.NoFrames need free) = codes "NoFrames " ++ decimal need ++ codes " " ++ decimal free
refusal_text (refusals.NotCrossed n) = codes "NotCrossed " ++ decimal n
refusal_text (refusals.Pending n) = codes "Pending " ++ decimal n
refusal_text (refusals.Unripe n) = codes "Unripe " ++ decimal n
refusal_text (refusals.Uncopied n) = codes "Uncopied " ++ decimal n
refusal_text (refusals.Lent n) = codes "Lent " ++ decimal n
