use Rattle.std.proofs.Common.{arith}
use Rattle.page.proofs.Swapping.{targets_next, targets_last}
use Rattle.page.proofs.targets.swap_targets.Goals as goal

pub loop-index-init : goal.loop-index-init
loop-index-init c = λ after rest s. s

pub loop-index-preserved : goal.loop-index-preserved
loop-index-preserved c =
    targets_next c.args.records.now c.args.frames.now c.args.targets.now c.loop-index.index c.loop-index.frames
    c.swap_target.new.frames c.loop-index.targets c.index-targets-index.result c.swap_target.new.target
    c.loop-index.invariant (omega (arith, c.loop-index-test.true, c.loop-index.auto.targets))
    c.swap_target.ensures.frames c.swap_target.ensures.target

pub returns : goal.returns
returns c =
    targets_last c.args.records.now c.args.frames.now c.args.targets.now c.loop-index.index c.loop-index.frames
    c.loop-index.targets c.loop-index.invariant (omega (arith, c.loop-index-test.false, c.loop-index.auto.targets))
