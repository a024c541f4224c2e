use Rattle.forward.proofs.Bases.{AreListed}
use Rattle.forward.proofs.places.Places.listed.Given as goal

abbrev pub invariant-loop-number : goal.invariant-loop-number
invariant-loop-number l = AreListed l.fn.places l.number l.distances.items l.more.items l.last
