use Rattle.std.proofs.Common.{◌≡◌}
use Rattle.verify.specs.Walks.{IsWalkAt, Keeps, looks_left}
use Rattle.verify.proofs.walk.Walk.visit_fields.Given as goal

abbrev pub invariant-loop-k : goal.invariant-loop-k
invariant-loop-k l = record {
  walk : IsWalkAt l.chart l.address l.k l.self;
  kept : Keeps l.initial.self l.self;
  left : looks_left l.self ≡ looks_left l.initial.self;
}
