use Rattle.std.proofs.Common.{◌-◌}
use Rattle.relocate.specs.Runs.{IsRun}
use Rattle.relocate.proofs.whole.run_length.Given as goal

abbrev pub invariant-loop-count : goal.invariant-loop-count
invariant-loop-count l = IsRun l.fn.heap l.fn.page l.fn.first l.fn.end l.fn.target l.count

abbrev pub decreases-loop-count : goal.decreases-loop-count
decreases-loop-count l = l.fn.end - l.fn.first - l.count
