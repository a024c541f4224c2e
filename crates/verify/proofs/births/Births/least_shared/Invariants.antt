use Rattle.std.proofs.Common.{◌-◌, ◌≤◌, eqb, length}
use Rattle.std.specs.HashMap.{get}
use Rattle.verify.specs.Twins.{IsLeast, SharesBelow}
use Rattle.verify.proofs.births.Births.least_shared.Given as goal

abbrev pub invariant-loop-address : goal.invariant-loop-address
invariant-loop-address l = record {
  least : IsLeast (SharesBelow l.chart (get eqb l.self.addresses) l.from) l.least;
  within : l.from ≤ length l.spots;
}

abbrev pub decreases-loop-address : goal.decreases-loop-address
decreases-loop-address l = length l.spots - l.from
