use Rattle.std.proofs.Common.{◌≡◌, replicate, []}
use Rattle.forward.proofs.sides.empty_sides.Given as goal

abbrev pub invariant-loop-side : goal.invariant-loop-side
invariant-loop-side l = l.sides.items ≡ replicate l._side []
