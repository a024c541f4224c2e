use Rattle.std.proofs.Common.{◌-◌}
use Rattle.verify.proofs.Starting.{AreCovered}
use Rattle.verify.proofs.spots.Spots.new.Given as goal

abbrev pub invariant-loop-base : goal.invariant-loop-base
invariant-loop-base l = AreCovered l.image l.pages.items l.base

abbrev pub decreases-loop-base : goal.decreases-loop-base
decreases-loop-base l = l.count - l.base
