-- The text that a run by threads prints.
use Rattle.std.specs.Prelude.{ℕ, List, [], ◌∷◌, ◌++◌, sum_by, codes}
use Rattle.std.specs.Fmt.{decimal}
use Rattle.std.specs.List.{flat_map}
use Rattle.model.specs.declared.steps.Actor.{Actor}
use Rattle.model.specs.declared.steps.Actor.TheVariants.{Thread, Worker}
use Rattle.model.specs.declared.steps.Answer.{Answer}
use Rattle.model.specs.declared.steps.Answer.TheVariants as answers
use Rattle.entries.specs.declared.entry.Entry.{Entry}
use Rattle.sharing.specs.Seats.{SeatState}
use Rattle.reporting.specs.Texts.{actor_text}

-- a birth counts 1
abbrev pub birth_of : Answer → ℕ
birth_of (answers.Birth b) = 1
birth_of _ = 0

-- the datum that was read; 0 for another answer
abbrev pub datum_of : Answer → ℕ
datum_of (answers.Datum value) = value
datum_of _ = 0

-- how many objects were allocated in a list
abbrev pub births_in : List Entry → ℕ
births_in es = sum_by (λ e. birth_of e.answer) es

-- the sum of the data that were read in a list
abbrev pub data_in : List Entry → ℕ
data_in es = sum_by (λ e. datum_of e.answer) es

-- the line of a thread, without its newline
abbrev pub sums_line : ℕ → ℕ → ℕ → List ℕ
sums_line thread births total =
    codes "thread " ++ decimal thread ++ codes " births " ++ decimal births ++ codes " data " ++ decimal total

-- the line of a thread with this list; a worker has none
abbrev pub actor_line : Actor → List Entry → List ℕ
actor_line (Thread t) list = sums_line t (births_in list) (data_in list) ++ 10 ∷ []
actor_line (Worker w) list = []

-- the line of a seat
abbrev pub seat_text : SeatState → List ℕ
seat_text seat = actor_line seat.actor seat.list

-- the lines of seats, in order
abbrev pub seats_text : List SeatState → List ℕ
seats_text seats = flat_map seat_text seats

-- a line for each thread, then the line of settled seats
abbrev pub settled_text : List SeatState → List ℕ
settled_text seats = seats_text seats ++ codes "settled" ++ 10 ∷ []

-- the line of a stray actor
abbrev pub stray_text : Actor → List ℕ
stray_text actor = codes "stray " ++ actor_text actor ++ 10 ∷ []
