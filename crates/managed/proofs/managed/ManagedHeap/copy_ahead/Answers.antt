use Rattle.std.proofs.Common.{subst, sym}
use Rattle.model.specs.States.{HeapState}
use Rattle.managed.specs.Collecting.{IsCollecting}
use Rattle.managed.specs.Emptying.{CopiesAhead}
use Rattle.managed.specs.Managing.{IsManaged}
use Rattle.managed.proofs.Ahead.{ahead}
use Rattle.managed.proofs.Draining.{managed_goes}
use Rattle.managed.proofs.managed.ManagedHeap.copy_ahead.Goals as goal

pub invariant_of-self : goal.invariant_of-self
invariant_of-self g c =
    subst IsManaged (sym c.put_off_clearing.ensures)
    (managed_goes (IsCollecting c.args.worker) c.self.inside.heap c.copy_pages_by-copied.new.heap c.self.invariant
    (ahead c.law.ensures.steps c.args.worker c.self.inside.heap c.args.pages.now c.copy_pages_by-copied.result
    c.copy_pages_by-copied.new.heap c.law-2.ensures.store c.law-2.ensures.heap c.copy_pages_by-copied.ensures.copied
    c.copy_pages_by-copied.ensures.stays).goes)

pub returns : goal.returns
returns g c =
    subst (CopiesAhead c.args.worker c.args.self.now) (sym c.put_off_clearing.ensures)
    (subst (λ (h : HeapState). CopiesAhead c.args.worker h c.copy_pages_by-copied.new.heap) c.self.view_is
    (ahead c.law.ensures.steps c.args.worker c.self.inside.heap c.args.pages.now c.copy_pages_by-copied.result
    c.copy_pages_by-copied.new.heap c.law-2.ensures.store c.law-2.ensures.heap c.copy_pages_by-copied.ensures.copied
    c.copy_pages_by-copied.ensures.stays))
