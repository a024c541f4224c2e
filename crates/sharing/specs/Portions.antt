-- Quanta of mark drains: steps of a worker, which enter both the history and its seat's list.
use Rattle.std.specs.Prelude.{◌≡◌, ◌<◌, ◌≤◌, ℕ, Bool, true, false, List, ◌++◌, length, Some, None, Result, Ok, Err}
use Rattle.model.specs.declared.steps.Actor.{Actor}
use Rattle.model.specs.declared.steps.Actor.TheVariants.{Thread, Worker}
use Rattle.model.specs.declared.steps.Step.{Step}
use Rattle.model.specs.declared.steps.Step.TheVariants as steps
use Rattle.model.specs.declared.steps.Refusal.{Refusal}
use Rattle.model.specs.Scans.{next_drain}
use Rattle.entries.specs.declared.entry.Entry.{Entry}
use Rattle.cycle.specs.Books.{BookState, Acts, act_outcome}
use Rattle.cycle.specs.Beginnings.{replies_to}
use Rattle.cycle.specs.Loads.{tell}
use Rattle.cycle.specs.Drains.{drain_within}
use Rattle.sharing.specs.Seats.{SeatState}

-- n entries were appended to both the history and the seat's list: n steps of a worker's drain, each accepted
pub record IsPortion (n worker : ℕ) (seat : SeatState) (old : BookState) (after : SeatState) (new : BookState) : Type 0
  where
    pub steps : List Entry
    pub count : length steps ≡ n
    pub history : new.history ≡ old.history ++ steps
    pub list : after ≡ record seat { list = seat.list ++ steps }
    pub drained : drain_within n old worker ≡ tell new (replies_to steps)

-- the worker's next step is rejected
abbrev pub RefusesNext : ℕ → BookState → Refusal → Type 0
RefusesNext worker b e =
    (step : Step) × (next_drain b.heap worker ≡ Some step) × Acts b (Err e) b (act_outcome b (Worker worker) step)

-- A quantum of up to n steps: fewer if nothing is grey that no other worker has (true), or the next step is rejected.
abbrev pub DrainsSome : ℕ → ℕ → Result Bool Refusal → SeatState → BookState → SeatState → BookState → Type 0
DrainsSome worker most (Ok true) seat old after new =
    (n : ℕ) × (n ≤ most) × IsPortion n worker seat old after new × (next_drain new.heap worker ≡ None)
DrainsSome worker most (Ok false) seat old after new = IsPortion most worker seat old after new
DrainsSome worker most (Err e) seat old after new =
    (n : ℕ) × (n < most) × IsPortion n worker seat old after new × RefusesNext worker new e

-- a thread does no step that scans: it is rejected with this error
abbrev pub IsRefused : ℕ → Result Bool Refusal → SeatState → BookState → SeatState → BookState → Type 0
IsRefused thread (Ok ended) seat old after new = ⊥
IsRefused thread (Err e) seat old after new =
    (act_outcome old (Thread thread) steps.ScanField ≡ Err e) × (after ≡ seat) × (new ≡ old)

-- the effect of a quantum of an actor's drain, of up to n steps, on its seat and a recorded heap
abbrev pub Drains : Actor → ℕ → Result Bool Refusal → SeatState → BookState → SeatState → BookState → Type 0
Drains (Worker w) most result seat old after new = DrainsSome w most result seat old after new
Drains (Thread t) most result seat old after new = IsRefused t result seat old after new
