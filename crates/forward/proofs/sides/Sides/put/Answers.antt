use Rattle.std.proofs.Common.{arith}
use Rattle.forward.proofs.Totals.{counted_set}
use Rattle.forward.proofs.sides.Sides.put.Goals as goal

pub invariant_of-self : goal.invariant_of-self
invariant_of-self c =
    counted_set c.self.inside.sides.items _ c.args.index _ c.self.invariant
    (omega (arith, c.if-index-len.false, c.len.ensures, c.self.inside.sides.ok.0)) c.index.ensures c.args.side _ _
    c.uncopied.ensures.value c.uncopied-2.ensures.value c.uncopied-2.ensures.range
