use Rattle.managed.specs.Collecting.{EndsCrossing, EndsScanned}
use Rattle.managed.proofs.Gathering.{crossing_ends}
use Rattle.managed.proofs.Sequences.{then_more, then_stops}
use Rattle.managed.proofs.managed.ManagedHeap.finish_steps_by.Goals as goal

pub returns-in-Ok : goal.returns-in-Ok
returns-in-Ok g c = then_more (EndsCrossing c.args.worker) (λ (u : Unit {0}). EndsScanned c.args.worker)
    c.args.self.now c.cross_all.new.self c.drain_and_end_by.new.self c.cross_all.result tt
    c.drain_and_end_by.result c.in-Ok.is
    (crossing_ends c.args.worker c.args.self.now c.cross_all.new.self c.cross_all.result c.cross_all.ensures.ends
    c.cross_all.ensures.goes c.cross_all.ensures.behind) c.drain_and_end_by.ensures

pub returns-in-Err : goal.returns-in-Err
returns-in-Err g c = then_stops (EndsCrossing c.args.worker) (λ (u : Unit {0}). EndsScanned c.args.worker)
    c.args.self.now c.cross_all.new.self c.cross_all.result c.in-Err.refusal c.in-Err.is
    (crossing_ends c.args.worker c.args.self.now c.cross_all.new.self c.cross_all.result c.cross_all.ensures.ends
    c.cross_all.ensures.goes c.cross_all.ensures.behind)
