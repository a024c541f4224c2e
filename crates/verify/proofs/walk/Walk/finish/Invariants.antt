use Rattle.verify.specs.Walks.{IsWalk, Keeps, looks_left}
use Rattle.verify.proofs.walk.Walk.finish.Given as goal

abbrev pub invariant-loop-address : goal.invariant-loop-address
invariant-loop-address l = record {
  walk : IsWalk l.chart l.self;
  kept : Keeps l.initial.self l.self;
}

abbrev pub decreases-loop-address : goal.decreases-loop-address
decreases-loop-address l = looks_left l.self
