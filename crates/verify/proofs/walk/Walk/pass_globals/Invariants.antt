use Rattle.verify.specs.Walks.{IsWalk}
use Rattle.verify.specs.Searches.{PassedBefore}
use Rattle.verify.specs.Faults.{at}
use Rattle.verify.proofs.walk.Walk.pass_globals.Given as goal

abbrev pub invariant-loop-g : goal.invariant-loop-g
invariant-loop-g l = record {
  walk : IsWalk l.chart l.self;
  passed : PassedBefore l.chart l.self (at 3 l.g 0);
}
