use Rattle.collecting.proofs.Paced.{paced_making}
use Rattle.collecting.proofs.Refilled.{making_stands}
use Rattle.collecting.proofs.counted.ManagedHeapCollectCounted.make_paced_counted.Goals as goal

pub returns-clause-ends : goal.returns-clause-ends
returns-clause-ends c = paced_making c.args.thread c.args.policy.words c.args.policy.percent c.args.policy.free
    c.args.budget
    c.args.target c.args.layout c.args.parts.now c.make_paced_counted.new.parts c.args.self.now
    c.make_paced_counted.new.heap c.make_paced_counted.result c.make_paced_counted.ensures.makes

pub returns-clause-stands : goal.returns-clause-stands
returns-clause-stands c = making_stands c.args.thread c.args.policy.words c.args.policy.percent c.args.target
    c.args.layout c.args.self.now c.make_paced_counted.new.heap c.make_paced_counted.result
    (paced_making c.args.thread c.args.policy.words c.args.policy.percent c.args.policy.free c.args.budget
    c.args.target c.args.layout c.args.parts.now c.make_paced_counted.new.parts c.args.self.now
    c.make_paced_counted.new.heap c.make_paced_counted.result c.make_paced_counted.ensures.makes)
