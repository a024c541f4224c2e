use Rattle.collecting.proofs.Parted.{ended_on, ended_stops}
use Rattle.collecting.proofs.portions.end_mark.Goals as goal

pub returns-in-Ok : goal.returns-in-Ok
returns-in-Ok c = ended_on c.args.heap.now c.step.new.self c.step.result c.in-Ok.field-0 c.in-Ok.is
    c.step.ensures.does c.step.ensures.stands

pub returns-in-Err : goal.returns-in-Err
returns-in-Err c = ended_stops c.args.heap.now c.step.new.self c.step.result c.in-Err.refusal c.requires.phase
    c.requires.nothing c.in-Err.is c.step.ensures.does
