-- Seats of actors, and when they agree with a history.
use Rattle.std.specs.Prelude.{◌≡◌, List, [], ◌∷◌, ◌++◌, All, filter, length, map, Ok, Err}
use Rattle.std.specs.List.{range_with_len}
use Rattle.model.specs.declared.steps.Actor.{Actor}
use Rattle.model.specs.declared.steps.Actor.TheVariants.{Thread, Worker}
use Rattle.model.specs.declared.steps.Step.{Step}
use Rattle.entries.specs.declared.entry.Entry.{Entry}
use Rattle.cycle.specs.Books.{BookState, Reply}
use Rattle.entries.specs.Parts.{is_same, part_of}

-- a seat: its actor, and the actor's accepted steps with their answers, oldest first
pub record SeatState : Type 0 where
  pub actor : Actor
  pub list : List Entry

-- an accepted step enters the seat's list with its answer; a rejected one leaves the list
abbrev pub Notes : SeatState → Step → Reply → SeatState → Type 0
Notes old step (Ok answer) new =
    new ≡ record old { list = old.list ++ record { actor = old.actor; step = step; answer = answer } ∷ [] }
Notes old step (Err e) new = new ≡ old

-- a seat whose list is an actor's part of a history
abbrev pub seat_from : List Entry → Actor → SeatState
seat_from es a = record { actor = a; list = part_of a es }

-- the actors of a recorded heap: its threads, then its workers
abbrev pub actors_of : BookState → List Actor
actors_of b =
    map Thread (range_with_len 0 b.heap.config.threads) ++ map Worker (range_with_len 0 b.heap.config.workers)

-- a seat for each actor of a recorded heap, threads first, whose list is that actor's part of the history
abbrev pub seats_of : BookState → List SeatState
seats_of b = map (seat_from b.history) (actors_of b)

-- the seats of an actor
abbrev pub of_actor : Actor → List SeatState → List SeatState
of_actor a ss = filter (λ (s : SeatState). is_same s.actor a) ss

-- the list of each seat of the actor is the actor's part of the history
abbrev pub HasPart : List Entry → List SeatState → Actor → Type 0
HasPart es ss a = All (λ (s : SeatState). s.actor ≡ a → s.list ≡ part_of a es) ss

-- an actor with an entry has one seat
abbrev pub HasOne : List Entry → List SeatState → Actor → Type 0
HasOne es ss a = All (λ (e : Entry). e.actor ≡ a → length (of_actor a ss) ≡ 1) es

-- seats and history agree on the actor
abbrev pub Agrees : List Entry → List SeatState → Actor → Type 0
Agrees es ss a = HasPart es ss a × HasOne es ss a

-- Each actor of the history has one seat, and each seat's list is its actor's part of the history.
abbrev pub AreSettled : List Entry → List SeatState → Type 0
AreSettled es ss = (a : Actor) → Agrees es ss a
