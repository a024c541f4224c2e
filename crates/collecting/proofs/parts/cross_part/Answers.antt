use Rattle.collecting.proofs.Staged.{crossed_on, crossed_stops}
use Rattle.collecting.proofs.parts.cross_part.Goals as goal

pub returns-in-Ok : goal.returns-in-Ok
returns-in-Ok c = crossed_on c.args.heap.now c.cross.new.heap c.cross.result tt c.in-Ok.is c.cross.ensures

pub returns-in-Err : goal.returns-in-Err
returns-in-Err c = crossed_stops c.args.heap.now c.cross.new.heap c.cross.result c.in-Err.refusal c.in-Err.is
    c.cross.ensures
