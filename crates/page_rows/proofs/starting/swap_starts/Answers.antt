use Rattle.std.proofs.Common.{arith}
use Rattle.page_rows.proofs.SwappedStarts.{starts_next, starts_last}
use Rattle.page_rows.proofs.starting.swap_starts.Goals as goal

pub loop-index-init : goal.loop-index-init
loop-index-init c = λ after rest s. s

pub loop-index-preserved : goal.loop-index-preserved
loop-index-preserved c =
    starts_next c.args.starts.now c.args.targets.now c.loop-index.index c.loop-index.starts c.swap_start.new.starts
    c.loop-index.targets c.index-targets-index.result c.swap_start.new.target c.loop-index.invariant
    (omega (arith, c.loop-index-test.true, c.loop-index.auto.targets)) c.swap_start.ensures.starts
    c.swap_start.ensures.target

pub returns : goal.returns
returns c =
    starts_last c.args.starts.now c.args.targets.now c.loop-index.index c.loop-index.starts c.loop-index.targets
    c.loop-index.invariant (omega (arith, c.loop-index-test.false, c.loop-index.auto.targets))
