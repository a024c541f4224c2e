use Rattle.std.proofs.Common.{◌-◌, ◌≤◌}
use Rattle.relocate.proofs.Runs.{IsDone}
use Rattle.relocate.proofs.whole.copy_runs_by.Given as goal

abbrev pub invariant-loop-first : goal.invariant-loop-first
invariant-loop-first g l = record {
  done : IsDone l.fn.heap l.heap l.fn.page l.first l.fn.count;
  few : l.number ≤ l.first;
}

abbrev pub decreases-loop-first : goal.decreases-loop-first
decreases-loop-first g l = l.fn.count - l.first
