use Rattle.std.proofs.Common.{◌-◌, length}
use Rattle.verify.specs.Searches.{GoodBefore}
use Rattle.verify.specs.Faults.{at}
use Rattle.verify.proofs.fields.first_bad_field.Given as goal

abbrev pub invariant-loop-address : goal.invariant-loop-address
invariant-loop-address l = GoodBefore l.chart (at 4 l.from 0)

abbrev pub decreases-loop-address : goal.decreases-loop-address
decreases-loop-address l = length l.spots - l.from
