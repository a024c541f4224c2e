use Rattle.verify.specs.Walks.{IsWalk}
use Rattle.verify.specs.Searches.{PassedBefore}
use Rattle.verify.specs.Faults.{at}
use Rattle.verify.proofs.walk.Walk.pass_thread.Given as goal

abbrev pub invariant-loop-r : goal.invariant-loop-r
invariant-loop-r l = record {
  walk : IsWalk l.chart l.self;
  passed : PassedBefore l.chart l.self (at 1 l.thread l.r);
}
