use Rattle.std.proofs.Common.{subst}
use Rattle.model.specs.States.{HeapState}
use Rattle.managed.specs.Goings.{IsScan, ScansObjects}
use Rattle.managed.proofs.Draining.{drained_goes, drained_objects, managed_goes}
use Rattle.managed.proofs.Going.{scans_same}
use Rattle.managed.proofs.managed.ManagedHeap.scan_objects_by.Goals as goal

pub invariant_of-self : goal.invariant_of-self
invariant_of-self g c = managed_goes (IsScan c.args.worker) c.self.inside.heap c.drain_by.new.heap c.self.invariant
    (drained_goes c.self.inside.heap c.drain_by.new.heap c.args.worker c.drain_by.result c.law.ensures.steps
    c.drain_by.ensures.drained)

pub returns-clause-objects : goal.returns-clause-objects
returns-clause-objects g c =
    subst (λ (h : HeapState). ScansObjects c.args.worker c.drain_by.result h c.drain_by.new.heap) c.self.view_is
    (drained_objects c.self.inside.heap c.drain_by.new.heap c.args.worker c.drain_by.result c.law.ensures.steps
    c.drain_by.ensures.drained)

pub returns-clause-stands : goal.returns-clause-stands
returns-clause-stands g c = scans_same c.args.worker c.args.self.now c.drain_by.new.heap
    (subst (λ (h : HeapState). ScansObjects c.args.worker c.drain_by.result h c.drain_by.new.heap) c.self.view_is
    (drained_objects c.self.inside.heap c.drain_by.new.heap c.args.worker c.drain_by.result c.law.ensures.steps
    c.drain_by.ensures.drained)).goes
