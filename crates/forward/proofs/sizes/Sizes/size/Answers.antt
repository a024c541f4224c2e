use Rattle.std.proofs.Common.{◌+◌, refl, arith}
use Rattle.forward.proofs.Summed.{before_grows, size_is}
use Rattle.forward.proofs.sizes.Sizes.size.Goals as goal

pub overflow_sub-result : goal.overflow_sub-result
overflow_sub-result c = omega (
  arith,
  c.before-2.ensures,
  c.before-3.ensures,
  before_grows c.args.self.now c.args.number (c.args.number + 1) (omega arith),
)

pub returns : goal.returns
returns c = size_is c.args.self.now c.args.number (c.args.number + 1) _ _ refl c.requires c.before-2.ensures
    c.before-3.ensures
