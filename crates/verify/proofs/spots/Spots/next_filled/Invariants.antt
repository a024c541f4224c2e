use Rattle.std.proofs.Common.{◌≡◌, ◌<◌, ◌≤◌, ◌-◌, ℕ}
use Rattle.verify.specs.Spots.{spots_of}
use Rattle.verify.specs.Walks.{spot_at}
use Rattle.verify.specs.declared.spots.Spot.TheVariants.{Empty}
use Rattle.verify.proofs.spots.Spots.next_filled.Given as goal

abbrev pub invariant-loop-at : goal.invariant-loop-at
invariant-loop-at l = record {
  low : l.from ≤ l.at;
  none : (b : ℕ) → l.from ≤ b → b < l.at
      → spot_at (spots_of l.self-inside.words l.self-inside.count l.self-inside.pages.items) b ≡ Empty;
}

abbrev pub decreases-loop-at : goal.decreases-loop-at
decreases-loop-at l = l.self-inside.count - l.at
