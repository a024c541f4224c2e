use Rattle.std.proofs.Common.{ap, arith, length}
use Rattle.forward.proofs.Bases.{addresses_many}
use Rattle.forward.proofs.places.Places.len.Goals as goal

pub returns : goal.returns
returns c = omega (
  arith,
  c.len.ensures,
  addresses_many c.self.inside.base c.self.inside.more.items 0 c.self.inside.distances.items,
  ap length c.self.view_is,
)
