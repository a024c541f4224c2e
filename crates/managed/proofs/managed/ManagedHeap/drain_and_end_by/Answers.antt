use Rattle.managed.specs.Collecting.{EndsDraining, EndsHere}
use Rattle.managed.proofs.Sequences.{then_more, then_stops}
use Rattle.managed.proofs.managed.ManagedHeap.drain_and_end_by.Goals as goal

pub returns-in-Ok : goal.returns-in-Ok
returns-in-Ok g c = then_more (EndsDraining c.args.worker) (λ (u : Unit {0}). EndsHere c.args.worker) c.args.self.now
    c.drain_by.new.self c.end_mark.new.self c.drain_by.result tt c.end_mark.result c.in-Ok.is
    (c.drain_by.ensures.goes, c.drain_by.ensures.ends) c.end_mark.ensures

pub returns-in-Err : goal.returns-in-Err
returns-in-Err g c = then_stops (EndsDraining c.args.worker) (λ (u : Unit {0}). EndsHere c.args.worker) c.args.self.now
    c.drain_by.new.self c.drain_by.result c.in-Err.refusal c.in-Err.is
    (c.drain_by.ensures.goes, c.drain_by.ensures.ends)
