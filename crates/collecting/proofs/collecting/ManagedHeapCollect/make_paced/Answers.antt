use Rattle.collecting.proofs.Paced.{paced_making}
use Rattle.collecting.proofs.Refilled.{making_stands}
use Rattle.collecting.proofs.collecting.ManagedHeapCollect.make_paced.Goals as goal

pub returns-clause-ends : goal.returns-clause-ends
returns-clause-ends c = paced_making c.args.thread c.args.policy.words c.args.policy.percent c.args.policy.free
    c.args.budget
    c.args.target c.args.layout c.args.parts.now c.make_paced.new.parts c.args.self.now c.make_paced.new.heap
    c.make_paced.result c.make_paced.ensures

pub returns-clause-stands : goal.returns-clause-stands
returns-clause-stands c = making_stands c.args.thread c.args.policy.words c.args.policy.percent c.args.target
    c.args.layout c.args.self.now c.make_paced.new.heap c.make_paced.result
    (paced_making c.args.thread c.args.policy.words c.args.policy.percent c.args.policy.free c.args.budget
    c.args.target c.args.layout
    c.args.parts.now c.make_paced.new.parts c.args.self.now c.make_paced.new.heap c.make_paced.result
    c.make_paced.ensures)
