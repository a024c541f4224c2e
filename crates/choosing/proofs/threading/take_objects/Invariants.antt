use Rattle.std.proofs.Common.{length}
use Rattle.std.specs.List.{All}
use Rattle.model.specs.States.{HeapState}
use Rattle.choosing.specs.Measures.{IfMeasured, IsOnPage}
use Rattle.choosing.proofs.threading.take_objects.Given as goal

abbrev pub invariant-loop-part : goal.invariant-loop-part
invariant-loop-part l = (h : HeapState) → All (IfMeasured h) l.fn.parts.items
    → All (IsOnPage h) l.list.items × All (IfMeasured h) l.parts.items

abbrev pub decreases-loop-part : goal.decreases-loop-part
decreases-loop-part l = length l.parts.items
