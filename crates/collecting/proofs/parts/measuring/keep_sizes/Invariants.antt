use Rattle.std.proofs.Common.{◌≡◌}
use Rattle.collecting.proofs.parts.measuring.keep_sizes.Given as goal

abbrev pub invariant-loop-index : goal.invariant-loop-index
invariant-loop-index l = l.heap ≡ l.fn.heap
