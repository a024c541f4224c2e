use Rattle.collecting.proofs.Parted.{begun, begun_stops}
use Rattle.collecting.proofs.portions.begin_mark.Goals as goal

pub returns-in-Ok : goal.returns-in-Ok
returns-in-Ok c = begun c.args.heap.now c.step.new.self c.cross_open.new.heap c.step.result c.cross_open.result
    c.step.ensures.does c.step.ensures.stands c.cross_open.ensures

pub returns-in-Err : goal.returns-in-Err
returns-in-Err c = begun_stops c.args.heap.now c.step.new.self c.step.result c.in-Err.refusal c.requires c.in-Err.is
    c.step.ensures.does
