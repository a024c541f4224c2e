use Rattle.std.proofs.Common.{◌-◌, ◌≤◌}
use Rattle.heap.specs.Filling.{AreRunsTo}
use Rattle.relocate.specs.Many.{AddsTo}
use Rattle.relocate.proofs.many.add_page.Given as goal

abbrev pub invariant-loop-first : goal.invariant-loop-first
invariant-loop-first l = record {
  to : AreRunsTo l.heap l.targets.items;
  adds : AddsTo l.page l.first l.fn.targets.items l.targets.items;
  within : l.first ≤ l.count;
}

abbrev pub decreases-loop-first : goal.decreases-loop-first
decreases-loop-first l = l.count - l.first
