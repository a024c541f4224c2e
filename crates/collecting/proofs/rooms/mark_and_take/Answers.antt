use Rattle.collecting.proofs.Refilled.{marked_then, marked_stops}
use Rattle.collecting.proofs.rooms.mark_and_take.Goals as goal

pub returns-in-Ok : goal.returns-in-Ok
returns-in-Ok c = marked_then c.args.thread c.args.policy.words c.args.policy.percent c.args.heap.now
    c.mark_whole.new.heap c.take.new.heap c.mark_whole.result c.in-Ok.field-0 c.take.result c.in-Ok.is
    c.mark_whole.ensures c.take.ensures.takes

pub returns-in-Err : goal.returns-in-Err
returns-in-Err c = marked_stops c.args.thread c.args.policy.words c.args.policy.percent c.args.heap.now
    c.mark_whole.new.heap c.mark_whole.result c.in-Err.refusal c.in-Err.is c.mark_whole.ensures
