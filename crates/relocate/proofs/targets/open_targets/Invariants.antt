use Rattle.std.proofs.Common.{◌≤◌}
use Rattle.std.specs.Vec.{vec_capacity}
use Rattle.relocate.proofs.Opening.{HasOpened, IsLeft}
use Rattle.relocate.proofs.targets.open_targets.Given as goal

abbrev pub invariant-loop : goal.invariant-loop
invariant-loop l = record {
  opened : HasOpened l.fn.heap l.heap l.fn.count l.counter l.targets.items;
  room : l.fn.count ≤ vec_capacity l.targets;
  blank : IsLeft l.heap.store.words l.fn.count l.counter l.memory.items;
}
