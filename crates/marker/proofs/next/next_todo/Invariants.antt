use Rattle.std.proofs.Common.{◌+◌, ◌-◌, length}
use Rattle.marker.proofs.Free.{NoneBefore}
use Rattle.marker.proofs.next.next_todo.Given as goal

abbrev pub invariant-loop-index : goal.invariant-loop-index
invariant-loop-index l = NoneBefore l.fn.heap (l.from + 1)

abbrev pub decreases-loop-index : goal.decreases-loop-index
decreases-loop-index l = length l.fn.heap.todo - l.from
