use Rattle.std.proofs.Common.{arith}
use Rattle.reporting.proofs.Copied.{copied_rest}
use Rattle.reporting.proofs.lines.copied_in.Goals as goal

pub overflow_sub-result : goal.overflow_sub-result
overflow_sub-result c = omega (arith, copied_rest c.args.side.now, c.len.ensures.value, c.uncopied.ensures.value)

pub returns : goal.returns
returns c = omega (arith, copied_rest c.args.side.now, c.len.ensures.value, c.uncopied.ensures.value)
