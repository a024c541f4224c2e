use Rattle.sharing.specs.Many.{HasGrown}
use Rattle.sharing.proofs.seat.Seat.act_many.Given as goal

-- at most as many steps are accepted as the loop has tried
abbrev pub invariant-loop : goal.invariant-loop
invariant-loop g l = HasGrown l.counter l.fn.self l.fn.book l.self l.book
