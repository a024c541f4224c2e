use Rattle.std.proofs.Common.{◌+◌, ◌-◌}
use Rattle.std.specs.Prelude.{IfSome}
use Rattle.pieces.specs.Pieces.{source_of, AreInOrder, IsBehind}
use Rattle.pieces.proofs.halves.is_in_order.Given as goal

abbrev pub invariant-loop-index : goal.invariant-loop-index
invariant-loop-index l =
    (AreInOrder (source_of l.fn.source) l.low l.fn.high (l.fn.first + l.index) (l.fn.count - l.index)
    → AreInOrder (source_of l.fn.source) 0 l.fn.high l.fn.first l.fn.count)
    × IfSome l.before (λ o. IsBehind l.fn.source.side.now (l.fn.first + l.index) o)
