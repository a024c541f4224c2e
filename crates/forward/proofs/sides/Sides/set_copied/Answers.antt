use Rattle.std.proofs.Common.{arith}
use Rattle.forward.proofs.Totals.{counted_set}
use Rattle.forward.proofs.sides.Sides.set_copied.Goals as goal

pub invariant_of-self : goal.invariant_of-self
invariant_of-self c =
    counted_set c.self.inside.sides.items _ c.args.index _ c.self.invariant
    (omega (arith, c.if-index-len.true, c.len.ensures, c.self.inside.sides.ok.0)) c.index_mut-side.ensures.value
    c.set_copied.new.self _ _
    c.uncopied.ensures.value c.uncopied-then-index-len.ensures.value c.uncopied-then-index-len.ensures.range
