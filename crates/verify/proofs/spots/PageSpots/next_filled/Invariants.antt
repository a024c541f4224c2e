use Rattle.std.proofs.Common.{◌≡◌, ◌<◌, ◌≤◌, ℕ}
use Rattle.verify.specs.Walks.{spot_at}
use Rattle.verify.specs.declared.spots.Spot.TheVariants.{Empty}
use Rattle.verify.proofs.spots.PageSpots.next_filled.Given as goal

abbrev pub invariant-loop-offset : goal.invariant-loop-offset
invariant-loop-offset l =
    (b : ℕ) → l.from ≤ b → b < l.offset → spot_at l.self b ≡ Empty
