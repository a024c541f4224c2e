use Rattle.std.proofs.Common.{◌≡◌, ◌<◌, ◌≤◌, ◌^◌, ◌-◌}
use Rattle.tournaments.proofs.tournament.size_for.Given as goal

abbrev pub invariant-loop-width : goal.invariant-loop-width
invariant-loop-width l = record { power : l.width ≡ 2 ^ l.depth; range : l.width ≤ 2 ^ 21; deep : l.depth < l.width }

abbrev pub decreases-loop-width : goal.decreases-loop-width
decreases-loop-width l = l.count - l.width
