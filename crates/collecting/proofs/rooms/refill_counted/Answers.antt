use Rattle.collecting.proofs.Refilled.{ends_after}
use Rattle.collecting.proofs.rooms.refill_counted.Goals as goal

pub returns-clause-refills : goal.returns-clause-refills
returns-clause-refills c = ends_after c.args.thread c.args.policy.words c.args.policy.percent c.args.heap.now
    c.give.new.heap c.take_by_policy-result.new.heap c.take_by_policy-result.result c.give.ensures.gives
    c.take_by_policy-result.ensures.refills
