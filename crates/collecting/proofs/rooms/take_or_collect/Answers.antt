use Rattle.std.proofs.Common.{◌∙◌, inr, sym}
use Rattle.collecting.specs.Rooms.{HasTriedAll}
use Rattle.collecting.proofs.Refilled.{at_once, not_room, refused_then}
use Rattle.collecting.proofs.Counts.{lacks_here, not_counted}
use Rattle.collecting.proofs.rooms.take_or_collect.Goals as goal

pub returns-in-Ok-clause-refills : goal.returns-in-Ok-clause-refills
returns-in-Ok-clause-refills c = at_once (HasTriedAll c.args.thread c.args.policy.percent) c.args.thread
    c.args.policy.words c.args.policy.percent c.args.heap.now c.take.new.heap c.take.result c.in-Ok.buffer c.in-Ok.is
    c.take.ensures.takes

pub returns-then-lacks_room-clause-refills : goal.returns-then-lacks_room-clause-refills
returns-then-lacks_room-clause-refills c = refused_then c.args.thread c.args.policy.words c.args.policy.percent
    c.args.heap.now c.take.new.heap c.collect_and_take.new.heap c.take.result c.collect_and_take.result
    c.take.ensures.takes
    c.collect_and_take.ensures.refills

pub returns-else-lacks_room-clause-refills : goal.returns-else-lacks_room-clause-refills
returns-else-lacks_room-clause-refills c = not_room (HasTriedAll c.args.thread c.args.policy.percent) c.args.thread
    c.args.policy.words
    c.args.policy.percent c.args.heap.now c.take.new.heap c.take.result c.in-Err.refusal c.in-Err.is
    (sym c.lacks_room.ensures ∙ c.if-lacks_room.false) c.take.ensures.takes

pub returns-in-Ok-clause-counts : goal.returns-in-Ok-clause-counts
returns-in-Ok-clause-counts c = not_counted c.args.thread c.args.policy.words c.args.policy.percent c.args.heap.now
    c.take.new.heap c.args.counters.now c.take.ensures.only

pub returns-then-lacks_room-clause-counts : goal.returns-then-lacks_room-clause-counts
returns-then-lacks_room-clause-counts c = inr (
  c.take.new.heap,
  c.take.ensures.only,
  lacks_here c.args.thread c.args.policy.words c.args.policy.percent c.args.heap.now c.take.new.heap c.take.result
      c.in-Err.refusal c.in-Err.is (sym c.lacks_room.ensures ∙ c.if-lacks_room.true) c.take.ensures.takes,
  c.collect_and_take.ensures.counts,
)

pub returns-else-lacks_room-clause-counts : goal.returns-else-lacks_room-clause-counts
returns-else-lacks_room-clause-counts c = not_counted c.args.thread c.args.policy.words c.args.policy.percent
    c.args.heap.now c.take.new.heap c.args.counters.now c.take.ensures.only
