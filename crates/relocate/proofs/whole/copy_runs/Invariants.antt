use Rattle.std.proofs.Common.{◌-◌}
use Rattle.relocate.proofs.Runs.{IsDone}
use Rattle.relocate.proofs.whole.copy_runs.Given as goal

abbrev pub invariant-loop-first : goal.invariant-loop-first
invariant-loop-first l = IsDone l.fn.heap l.heap l.fn.page l.first l.fn.count

abbrev pub decreases-loop-first : goal.decreases-loop-first
decreases-loop-first l = l.fn.count - l.first
