use Rattle.collecting.proofs.Refilled.{making_stands}
use Rattle.collecting.proofs.collecting.ManagedHeapCollect.make.Goals as goal

pub returns-clause-stands : goal.returns-clause-stands
returns-clause-stands c = making_stands c.args.thread c.args.policy.words c.args.policy.percent c.args.target
    c.args.layout c.args.self.now c.make.new.heap c.make.result c.make.ensures
