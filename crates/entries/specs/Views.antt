-- A history as it is stored.
use Rattle.std.specs.Prelude.{ℕ, ◌<◌, ◌&&◌, Bool, List, length, map, get_or, nat_lt, Option, Some, None}
use Rattle.std.specs.Prelude.{vec_len, vec_capacity}
use Rattle.std.specs.List.{All}
use Rattle.model.specs.declared.steps.Step.{Step}
use Rattle.model.specs.declared.steps.Step.TheVariants as steps
use Rattle.model.specs.declared.steps.Answer.TheVariants as answers
use Rattle.entries.specs.declared.entry.Entry.{Entry}
use Rattle.entries.specs.declared.blocks.Kept.{Kept}
use Rattle.entries.specs.declared.history.History.TheInside.{Inside}
use Rattle.entries.specs.Histories.{HistoryState}
use Rattle.entries.specs.Events.{step_in, answer_in, place_in}

-- an entry whose short form has this step; without one, it is stored in full in this list
abbrev pub entry_with : List Entry → Kept → Option Step → Entry
entry_with whole k (Some step) = record { actor = k.actor; step = step; answer = answer_in k.event }
entry_with whole k None =
    get_or whole (place_in k.event) (record { actor = k.actor; step = steps.Park; answer = answers.Done })

-- the entry that is stored
abbrev pub entry_in : List Entry → Kept → Entry
entry_in whole k = entry_with whole k (step_in k.event)

-- an entry that has no short form has its place among n
abbrev pub StandsBy : ℕ → Kept → Option Step → Type 0
StandsBy n k (Some step) = Unit {0}
StandsBy n k None = place_in k.event < n

abbrev pub Stands : ℕ → Kept → Type 0
Stands n k = StandsBy n k (step_in k.event)

-- there is space for one more
abbrev pub has_room : Inside → Bool
has_room h = h.kept.has_room && nat_lt (vec_len h.whole) (vec_capacity h.whole)

-- its entries, and whether there is space for one more
abbrev pub history_of : Inside → HistoryState
history_of h = record { entries = map (entry_in h.whole.items) h.kept.items; has_room = has_room h }

-- each has its place
abbrev pub IsKept : Inside → Type 0
IsKept h = All (Stands (length h.whole.items)) h.kept.items
