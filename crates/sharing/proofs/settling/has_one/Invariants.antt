use Rattle.std.proofs.Common.{◌≡◌, ◌≤◌, length, take}
use Rattle.sharing.specs.Seats.{of_actor}
use Rattle.sharing.proofs.settling.has_one.Given as goal

abbrev pub invariant-loop-seat : goal.invariant-loop-seat
invariant-loop-seat l = (l.count ≡ length (of_actor l.actor (take l.seat-index l.seats))) × (l.count ≤ l.seat-index)
