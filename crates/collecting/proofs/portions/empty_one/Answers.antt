use Rattle.model.specs.States.{HeapState}
use Rattle.managed.specs.Collecting.{EndsCrossing}
use Rattle.managed.proofs.Sequences.{then_more, then_stops}
use Rattle.collecting.specs.Collections.{WORKER, EndsLeft}
use Rattle.collecting.proofs.Staged.{crossed_all}
use Rattle.collecting.proofs.portions.empty_one.Goals as goal

pub empty_crossed-requires : goal.empty_crossed-requires
empty_crossed-requires c = crossed_all c.cross.new.heap c.args.heap.now c.cross.result tt c.in-Ok.is c.cross.ensures

pub returns-in-Ok : goal.returns-in-Ok
returns-in-Ok c = then_more (EndsCrossing WORKER) (λ (u : Unit {0}) (m : HeapState). EndsLeft m c.args.page)
    c.args.heap.now c.cross.new.heap c.empty_crossed.new.heap c.cross.result tt c.empty_crossed.result c.in-Ok.is
    c.cross.ensures c.empty_crossed.ensures

pub returns-in-Err : goal.returns-in-Err
returns-in-Err c = then_stops (EndsCrossing WORKER) (λ (u : Unit {0}) (m : HeapState). EndsLeft m c.args.page)
    c.args.heap.now c.cross.new.heap c.cross.result c.in-Err.refusal c.in-Err.is c.cross.ensures
