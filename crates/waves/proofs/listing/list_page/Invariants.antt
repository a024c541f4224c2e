use Rattle.std.proofs.Common.{◌-◌, ◌≤◌}
use Rattle.waves.proofs.listing.list_page.Given as goal

abbrev pub invariant-loop-place : goal.invariant-loop-place
invariant-loop-place l = l.from ≤ l.words

abbrev pub decreases-loop-place : goal.decreases-loop-place
decreases-loop-place l = l.words - l.from
