use Rattle.std.proofs.Common.{ap, arith, length}
use Rattle.forward.proofs.Summed.{sizes_many}
use Rattle.forward.proofs.sizes.Sizes.len.Goals as goal

pub returns-clause-value : goal.returns-clause-value
returns-clause-value c = omega (
  arith,
  c.len.ensures,
  sizes_many c.self.inside.before.items c.self.inside.total,
  ap length c.self.view_is,
)
