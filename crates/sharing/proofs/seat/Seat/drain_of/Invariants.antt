use Rattle.sharing.specs.Portions.{IsPortion}
use Rattle.sharing.proofs.seat.Seat.drain_of.Given as goal

-- as many steps are done as the loop has tried
abbrev pub invariant-loop : goal.invariant-loop
invariant-loop l = IsPortion l.counter l.worker l.fn.self l.fn.book l.self l.book
