use Rattle.std.proofs.Common.{ap, arith}
use Rattle.forward.specs.Counts.{uncopied_in}
use Rattle.forward.proofs.Edited.{left_of}
use Rattle.forward.proofs.side.Side.uncopied.Goals as goal

pub returns-clause-value : goal.returns-clause-value
returns-clause-value c = omega (
  arith,
  left_of c.self.inside.live c.self.inside.places c.self.inside.copied c.self.invariant.0,
  ap uncopied_in c.self.view_is,
  c.len.ensures,
  c.count.ensures,
)
