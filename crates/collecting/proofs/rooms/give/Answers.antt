use Rattle.collecting.proofs.Refilled.{given}
use Rattle.collecting.proofs.Counts.{given_only}
use Rattle.collecting.proofs.rooms.give.Goals as goal

pub returns-clause-gives : goal.returns-clause-gives
returns-clause-gives c = given c.args.thread c.args.heap.now c.give_back.new.self c.give_back.result
    c.give_back.ensures.does c.give_back.ensures.stands

pub returns-clause-only : goal.returns-clause-only
returns-clause-only c = given_only c.args.thread c.args.heap.now c.give_back.new.self c.give_back.result
    c.give_back.ensures.does c.give_back.ensures.stands
