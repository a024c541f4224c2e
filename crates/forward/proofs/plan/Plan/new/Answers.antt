use Rattle.std.proofs.Common.{◌∙◌, arith}
use Rattle.forward.proofs.Plans.{placed_all}
use Rattle.forward.proofs.Planned.{planned_so}
use Rattle.forward.proofs.plan.Plan.new.Goals as goal

pub returns-clause-planned : goal.returns-clause-planned
returns-clause-planned c = planned_so c.args.words c.args.sizes.now c.finish.result (c.finish.ensures
    ∙ placed_all c.args.words c.loop-index.index c.args.sizes.now c.loop-index.planning
    (omega (arith, c.loop-index-test.false)) c.loop-index.invariant)
