use Rattle.model.specs.States.{HeapState}
use Rattle.managed.specs.Collecting.{EndsCrossing}
use Rattle.managed.specs.Emptying.{EndsPages}
use Rattle.managed.proofs.Gathering.{crossing_ends}
use Rattle.managed.proofs.Sequences.{then_more, then_stops}
use Rattle.managed.proofs.managed.ManagedHeap.empty_protected_by.Goals as goal

pub returns-in-Ok-clause-ends : goal.returns-in-Ok-clause-ends
returns-in-Ok-clause-ends g c = then_more (EndsCrossing c.args.worker)
    (λ (u : Unit {0}) (m : HeapState). EndsPages c.args.worker m c.args.pages.now) c.args.self.now c.cross_all.new.self
    c.empty_crossed_by.new.self c.cross_all.result tt c.empty_crossed_by.result c.in-Ok.is
    (crossing_ends c.args.worker c.args.self.now c.cross_all.new.self c.cross_all.result c.cross_all.ensures.ends
    c.cross_all.ensures.goes c.cross_all.ensures.behind) c.empty_crossed_by.ensures.ends

pub returns-in-Err-clause-ends : goal.returns-in-Err-clause-ends
returns-in-Err-clause-ends g c = then_stops (EndsCrossing c.args.worker)
    (λ (u : Unit {0}) (m : HeapState). EndsPages c.args.worker m c.args.pages.now) c.args.self.now c.cross_all.new.self
    c.cross_all.result c.in-Err.refusal c.in-Err.is
    (crossing_ends c.args.worker c.args.self.now c.cross_all.new.self c.cross_all.result c.cross_all.ensures.ends
    c.cross_all.ensures.goes c.cross_all.ensures.behind)
