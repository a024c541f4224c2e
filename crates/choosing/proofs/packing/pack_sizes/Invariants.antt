use Rattle.std.proofs.Common.{◌≡◌, ◌+◌, ◌-◌, ◌≤◌, drop, length}
use Rattle.choosing.specs.Packings.{pack}
use Rattle.choosing.proofs.packing.pack_sizes.Given as goal

abbrev pub invariant-loop-number : goal.invariant-loop-number
invariant-loop-number l = (pack l.words l.packing (drop l.number l.fn.sizes) ≡ pack l.words l.fn.before l.fn.sizes)
    × (l.packing.target ≤ l.fn.before.target + l.number) × (l.number ≤ length l.fn.sizes)

abbrev pub decreases-loop-number : goal.decreases-loop-number
decreases-loop-number l = l.count - l.number
