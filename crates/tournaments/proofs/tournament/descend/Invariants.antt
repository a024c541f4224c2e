use Rattle.tournaments.proofs.Trees.{IsReached}
use Rattle.tournaments.proofs.tournament.descend.Given as goal

abbrev pub invariant-loop-level : goal.invariant-loop-level
invariant-loop-level l = IsReached l.nodes l.depth l.n l._level l.node
