use Rattle.std.proofs.Common.{◌≡◌}
use Rattle.collecting.proofs.measured.forget_objects.Given as goal

abbrev pub invariant-loop-index : goal.invariant-loop-index
invariant-loop-index l = l.heap ≡ l.fn.heap
