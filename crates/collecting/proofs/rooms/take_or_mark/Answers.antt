use Rattle.std.proofs.Common.{◌∙◌, sym}
use Rattle.collecting.specs.Rooms.{HasMarkedSince}
use Rattle.collecting.proofs.Refilled.{at_once, not_room, refused_mark}
use Rattle.collecting.proofs.rooms.take_or_mark.Goals as goal

pub returns-in-Ok : goal.returns-in-Ok
returns-in-Ok c = at_once (HasMarkedSince c.args.thread) c.args.thread c.args.policy.words c.args.policy.percent
    c.args.heap.now c.take.new.heap c.take.result c.in-Ok.buffer c.in-Ok.is c.take.ensures.takes

pub returns-then-lacks_room : goal.returns-then-lacks_room
returns-then-lacks_room c = refused_mark c.args.thread c.args.policy.words c.args.policy.percent
    c.args.heap.now c.take.new.heap c.mark_and_take.new.heap c.take.result c.mark_and_take.result c.take.ensures.takes
    c.mark_and_take.ensures

pub returns-else-lacks_room : goal.returns-else-lacks_room
returns-else-lacks_room c = not_room (HasMarkedSince c.args.thread) c.args.thread c.args.policy.words
    c.args.policy.percent c.args.heap.now c.take.new.heap c.take.result c.in-Err.refusal c.in-Err.is
    (sym c.lacks_room.ensures ∙ c.if-lacks_room.false) c.take.ensures.takes
