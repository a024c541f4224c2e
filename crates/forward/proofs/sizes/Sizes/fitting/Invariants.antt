use Rattle.std.proofs.Common.{◌-◌, ◌<◌, ◌≤◌, length}
use Rattle.forward.specs.Sizes.{words_before}
use Rattle.forward.proofs.sizes.Sizes.fitting.Given as goal

abbrev pub invariant-loop-low : goal.invariant-loop-low
invariant-loop-low l = (l.fn.from ≤ l.low) × (l.low ≤ l.high) × (l.high ≤ length l.fn.self)
    × (words_before l.fn.self l.low ≤ l.most) × (l.most < words_before l.fn.self l.high)

abbrev pub decreases-loop-low : goal.decreases-loop-low
decreases-loop-low l = l.high - l.low
