use Rattle.std.proofs.Common.{◌≡◌}
use Rattle.relocate.specs.Targets.{AreBlank}
use Rattle.relocate.proofs.targets.blank_targets.Given as goal

abbrev pub invariant-loop : goal.invariant-loop
invariant-loop l = record {
  memory : AreBlank l.fn.heap.store.words l.counter l.memory.items;
  heap : l.heap ≡ l.fn.heap;
}
