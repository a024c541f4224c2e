use Rattle.std.proofs.Common.{arith}
use Rattle.forward.proofs.Summed.{before_grows}
use Rattle.choosing.proofs.packing.pack_fitting.Goals as goal

pub overflow_sub-before : goal.overflow_sub-before
overflow_sub-before c = omega (
  arith,
  c.before-2.ensures,
  c.before-3.ensures,
  before_grows c.args.sizes.now c.args.from c.args.to c.requires.order,
)
