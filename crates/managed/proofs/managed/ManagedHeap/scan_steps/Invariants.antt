use Rattle.managed.proofs.Counting.{ScansSo}
use Rattle.managed.proofs.managed.ManagedHeap.scan_steps.Given as goal

-- `_done` scans have led here
abbrev pub invariant-loop-done : goal.invariant-loop-done
invariant-loop-done l = ScansSo l.worker l._done l.most l.fn.self l.self
