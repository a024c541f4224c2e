use Rattle.std.proofs.Common.{◌-◌, ◌≤◌}
use Rattle.drains.specs.Drains.{ObjectsDone}
use Rattle.waves.proofs.waving.scan_by.Given as goal

abbrev pub invariant-loop-done : goal.invariant-loop-done
invariant-loop-done g l = ObjectsDone l.fn.heap l.worker l.done l.heap × (l.done ≤ l.most)

abbrev pub decreases-loop-done : goal.decreases-loop-done
decreases-loop-done g l = l.most - l.done
