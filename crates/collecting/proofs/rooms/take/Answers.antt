use Rattle.collecting.proofs.Refilled.{taken}
use Rattle.collecting.proofs.Counts.{taken_only}
use Rattle.collecting.proofs.rooms.take.Goals as goal

pub returns-clause-takes : goal.returns-clause-takes
returns-clause-takes c = taken c.args.thread c.args.policy.words c.args.policy.percent c.args.heap.now
    c.give_back-given.new.self
    c.take.new.self c.give_back-given.result c.take.result c.give_back-given.ensures.does
    c.give_back-given.ensures.stands
    c.take.ensures.does c.take.ensures.stands c.take.ensures.buffer

pub returns-clause-only : goal.returns-clause-only
returns-clause-only c = taken_only c.args.thread c.args.policy.words c.args.heap.now c.give_back-given.new.self
    c.take.new.self c.give_back-given.result c.take.result c.give_back-given.ensures.does
    c.give_back-given.ensures.stands c.take.ensures.does c.take.ensures.stands
