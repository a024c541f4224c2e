use Rattle.fast_paths.proofs.Compared.{compared}
use Rattle.fast_paths.proofs.at_once.same_at_once.Goals as goal

pub returns : goal.returns
returns c =
    compared c.args.heap.now c.args.thread c.args.left c.args.right c.number.result c.number-2.result c.in_ok-_left._left
    c.in_ok-left.left c.in_ok-right.right c.in_ok-_left.ensures c.in_ok-left.ensures c.in_ok-right.ensures
    c.number.ensures c.number-2.ensures c.bits.ensures.range c.bits-2.ensures.range
