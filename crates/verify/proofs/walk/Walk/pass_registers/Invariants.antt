use Rattle.verify.specs.Walks.{IsWalk}
use Rattle.verify.specs.Searches.{PassedBefore}
use Rattle.verify.specs.Faults.{at}
use Rattle.verify.proofs.walk.Walk.pass_registers.Given as goal

abbrev pub invariant-loop-t : goal.invariant-loop-t
invariant-loop-t l = record {
  walk : IsWalk l.chart l.self;
  passed : PassedBefore l.chart l.self (at 1 l.t 0);
}
