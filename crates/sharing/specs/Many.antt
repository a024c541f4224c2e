-- Several steps of one actor, which enter both the history and its seat's list.
use Rattle.std.specs.Prelude.{◌≡◌, ◌≤◌, ℕ, Bool, List, [], ◌∷◌, ◌++◌, length, Result, Ok, Err}
use Rattle.model.specs.declared.steps.Actor.{Actor}
use Rattle.model.specs.declared.steps.Step.{Step}
use Rattle.model.specs.declared.steps.Refusal.{Refusal}
use Rattle.entries.specs.declared.entry.Entry.{Entry}
use Rattle.cycle.specs.Books.{BookState, Acts, act_outcome}
use Rattle.sharing.specs.Seats.{SeatState}

-- accepted steps of an actor, in order, lead from one recorded heap to another
abbrev pub LeadTo : Actor → List Entry → BookState → BookState → Type 0
LeadTo actor [] b c = b ≡ c
LeadTo actor (e ∷ es) b c =
    (d : BookState) × (act_outcome b actor e.step ≡ Ok (d, e.answer)) × LeadTo actor es d c

-- at most n entries were appended to both the history and the seat's list: accepted steps of its actor
pub record HasGrown (n : ℕ) (seat : SeatState) (old : BookState) (after : SeatState) (new : BookState) : Type 0 where
  pub steps : List Entry
  pub few : length steps ≤ n
  pub history : new.history ≡ old.history ++ steps
  pub list : after ≡ record seat { list = seat.list ++ steps }
  pub led : LeadTo seat.actor steps old new

-- the error is that of a step of the actor, which the recorded heap rejects as it is left
abbrev pub EndsMany : Result Bool Refusal → Actor → BookState → Type 0
EndsMany (Ok is_done) actor b = Unit {0}
EndsMany (Err e) actor b = (step : Step) × Acts b (Err e) b (act_outcome b actor step)

-- the effect of up to n steps of a seat's actor on the seat and a recorded heap
abbrev pub ActsMany : ℕ → Result Bool Refusal → SeatState → BookState → SeatState → BookState → Type 0
ActsMany most result seat old after new = HasGrown most seat old after new × EndsMany result seat.actor new
