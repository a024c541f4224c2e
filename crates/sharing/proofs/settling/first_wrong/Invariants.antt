use Rattle.std.proofs.Common.{take}
use Rattle.sharing.specs.Seats.{HasPart}
use Rattle.sharing.specs.Settling.{IsFirstNot}
use Rattle.sharing.proofs.settling.first_wrong.Given as goal

abbrev pub invariant-loop-seat : goal.invariant-loop-seat
invariant-loop-seat l = IsFirstNot (HasPart l.history.entries (take l.seat-index l.seats)) l.found
