use Rattle.std.proofs.Common.{◌≡◌, ◌<◌, ◌≤◌, ◌*◌, length, drop, ℕ}
use Rattle.tournaments.specs.Tournaments.{IsWinner}
use Rattle.tournaments.proofs.tournament.link.Given as goal

abbrev pub invariant-loop-node : goal.invariant-loop-node
invariant-loop-node l = record {
  len : length l.nodes ≡ 2 * l.width;
  high : l.node ≤ l.width;
  done : (i : ℕ) → 0 < i → l.node ≤ i → i < l.width → IsWinner l.nodes i;
  leaves : drop l.width l.nodes ≡ drop l.width l.fn.nodes;
}

abbrev pub decreases-loop-node : goal.decreases-loop-node
decreases-loop-node l = l.node
