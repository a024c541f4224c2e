use Rattle.drains.proofs.Ended.{GlobalsDone}
use Rattle.drains.proofs.globals.mark_globals.Given as goal

abbrev pub invariant-loop-number : goal.invariant-loop-number
invariant-loop-number l = GlobalsDone l.fn.heap l.worker l.number l.heap
