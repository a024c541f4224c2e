use Rattle.std.proofs.Common.{◌≡◌, ◌<◌, ◌*◌, ◌/◌, length, drop}
use Rattle.tournaments.specs.Tournaments.{IsTreeBut}
use Rattle.tournaments.proofs.tournament.settle.Given as goal

abbrev pub invariant-loop-node : goal.invariant-loop-node
invariant-loop-node l = record {
  len : length l.nodes ≡ 2 * l.width;
  there : l.node < 2 * l.width;
  others : IsTreeBut l.nodes l.width (l.node / 2);
  leaves : drop l.width l.nodes ≡ drop l.width l.fn.nodes;
}

abbrev pub decreases-loop-node : goal.decreases-loop-node
decreases-loop-node l = l.node
