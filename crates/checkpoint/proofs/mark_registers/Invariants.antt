use Rattle.std.proofs.Common.{◌≡◌}
use Rattle.model.specs.Checkpoints.{with_marked_registers}
use Rattle.checkpoint.proofs.mark_registers.Given as goal

abbrev pub invariant-loop-register : goal.invariant-loop-register
invariant-loop-register l = l.heap ≡ with_marked_registers l.fn.heap l.fn.thread l.register
