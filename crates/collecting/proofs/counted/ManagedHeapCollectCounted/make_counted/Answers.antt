use Rattle.collecting.proofs.Refilled.{making_stands}
use Rattle.collecting.proofs.counted.ManagedHeapCollectCounted.make_counted.Goals as goal

pub returns-clause-stands : goal.returns-clause-stands
returns-clause-stands c = making_stands c.args.thread c.args.policy.words c.args.policy.percent c.args.target
    c.args.layout c.args.self.now c.make_counted.new.heap c.make_counted.result c.make_counted.ensures.makes
