use Rattle.std.proofs.Common.{take}
use Rattle.heap.specs.Filling.{AreRunsTo}
use Rattle.page.specs.Filling.{runs_of}
use Rattle.relocate.specs.Many.{AreTiled}
use Rattle.relocate.proofs.many.list_runs.Given as goal

abbrev pub invariant-loop-index : goal.invariant-loop-index
invariant-loop-index l = record {
  to : AreRunsTo l.heap l.targets.items;
  tiled : AreTiled l.heap.sides (take l.index l.pages) (runs_of l.targets.items);
}
