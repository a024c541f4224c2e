use Rattle.std.proofs.Common.{◌≡◌, length, replicate, take, []}
use Rattle.forward.proofs.sides.clear.Given as goal

abbrev pub invariant-loop-index : goal.invariant-loop-index
invariant-loop-index l =
    (take l.index l.sides.items ≡ replicate l.index [])
    × (length l.sides.items ≡ length l.fn.sides.items)
