use Rattle.collecting.proofs.Refilled.{refill_not, refills_unseen}
use Rattle.collecting.proofs.collecting.ManagedHeapCollect.refill.Goals as goal

pub returns-clause-stands : goal.returns-clause-stands
returns-clause-stands c = refills_unseen c.args.thread c.args.self.now c.refill.new.heap c.refill.ensures.0

pub returns-clause-buffer : goal.returns-clause-buffer
returns-clause-buffer c = refill_not c.args.thread c.args.policy.words c.args.policy.percent c.args.self.now
    c.refill.result c.refill.new.heap c.refill.ensures.1
