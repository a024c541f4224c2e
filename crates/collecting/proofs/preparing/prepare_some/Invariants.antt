use Rattle.std.proofs.Common.{◌≡◌}
use Rattle.collecting.proofs.preparing.prepare_some.Given as goal

-- the heap's state stays
abbrev pub invariant-loop-done : goal.invariant-loop-done
invariant-loop-done l = l.heap ≡ l.fn.heap
