use Rattle.managed.proofs.Prepared.{HasScanned}
use Rattle.managed.proofs.managed.ManagedHeap.finish_fields.Given as goal

-- `_done` fields were scanned
abbrev pub invariant-loop-done : goal.invariant-loop-done
invariant-loop-done l = HasScanned l.worker l._done l.fn.self l.self
