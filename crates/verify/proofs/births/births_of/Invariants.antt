use Rattle.std.proofs.Common.{◌-◌, eqb, length}
use Rattle.std.specs.HashMap.{get}
use Rattle.verify.specs.Twins.{TellsBirths}
use Rattle.verify.proofs.births.births_of.Given as goal

abbrev pub invariant-loop-address : goal.invariant-loop-address
invariant-loop-address l = TellsBirths l.chart l.from (get eqb l.births.addresses)

abbrev pub decreases-loop-address : goal.decreases-loop-address
decreases-loop-address l = length l.spots - l.from
