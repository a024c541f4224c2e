use Rattle.collecting.proofs.Refilled.{refilled_stops, refilled_then}
use Rattle.collecting.proofs.rooms.refill_and_make_counted.Goals as goal

pub returns-in-Ok-clause-makes : goal.returns-in-Ok-clause-makes
returns-in-Ok-clause-makes c = refilled_then c.args.thread c.args.policy.words c.args.policy.percent c.args.target
    c.args.layout c.args.heap.now c.refill_counted.new.heap c.new_object.new.self c.refill_counted.result
    c.new_object.result
    c.refill_counted.ensures.refills c.new_object.ensures.does c.new_object.ensures.stands

pub returns-in-Err-clause-makes : goal.returns-in-Err-clause-makes
returns-in-Err-clause-makes c = refilled_stops c.args.thread c.args.policy.words c.args.policy.percent c.args.target
    c.args.layout c.args.heap.now c.refill_counted.new.heap c.refill_counted.result c.in-Err.refusal c.in-Err.is
    c.refill_counted.ensures.refills
