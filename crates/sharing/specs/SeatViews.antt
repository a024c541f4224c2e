-- A seat as contracts see it.
use Rattle.sharing.specs.declared.seat.Seat.TheInside.{Inside}
use Rattle.sharing.specs.Seats.{SeatState}

-- its actor, and the list of its entries
abbrev pub seat_of : Inside → SeatState
seat_of s = record { actor = s.actor; list = s.list.entries }
