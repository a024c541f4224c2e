use Rattle.std.proofs.Common.{◌≡◌, None, replicate}
use Rattle.model.specs.States.{Reference}
use Rattle.thread_records.proofs.thread.null_registers.Given as goal

abbrev pub invariant-loop-register : goal.invariant-loop-register
invariant-loop-register l = l.registers.items ≡ replicate {A = Reference} l._register None
