use Rattle.std.proofs.Common.{◌≡◌}
use Rattle.foreign.specs.Statistics.{summed_to}
use Rattle.foreign.proofs.statistics.summed.Given as goal

-- the threads so far are summed
abbrev pub invariant-loop-index : goal.invariant-loop-index
invariant-loop-index l = l.sum ≡ summed_to l.heap.threads l.index
