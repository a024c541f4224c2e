use Rattle.std.proofs.Common.{arith}
use Rattle.forward.proofs.Totals.{none_counted}
use Rattle.forward.proofs.sides.Sides.new.Goals as goal

pub invariant_of-result : goal.invariant_of-result
invariant_of-result c =
    rw c.in_ok-empty_sides.ensures (none_counted c.args.count (omega (arith, c.ranges.count.fits)))
