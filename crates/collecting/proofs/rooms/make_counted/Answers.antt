use Rattle.collecting.proofs.Refilled.{made_ok}
use Rattle.collecting.proofs.rooms.make_counted.Goals as goal

pub returns-in-Ok-clause-makes : goal.returns-in-Ok-clause-makes
returns-in-Ok-clause-makes c = made_ok c.args.thread c.args.policy.words c.args.policy.percent c.args.target
    c.args.layout c.in-Ok.number c.args.heap.now c.new_object.new.self c.new_object.result c.in-Ok.is
    c.new_object.ensures.does c.new_object.ensures.stands
