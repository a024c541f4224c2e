use Rattle.std.proofs.Common.{subst}
use Rattle.model.specs.States.{HeapState}
use Rattle.managed.specs.Goings.{MayLoadWhole}
use Rattle.model.specs.declared.steps.Step.TheVariants as steps
use Rattle.managed.proofs.AtOnce.{managed_at_once, may_load_whole}
use Rattle.managed.proofs.managed.ManagedHeap.read_found.Goals as goal

pub invariant_of-self : goal.invariant_of-self
invariant_of-self c =
    managed_at_once c.load_found.result c.self.inside.heap c.load_found.new.heap c.args.thread
    (steps.Load c.args.target c.args.object c.args.field) c.law.ensures.store c.law.ensures.heap c.law-2.ensures.steps
    c.law-2.ensures.marks c.law-2.ensures.phases c.law-2.ensures.tallies c.load_found.ensures.loads c.self.invariant

pub returns-clause-loads : goal.returns-clause-loads
returns-clause-loads c =
    subst (λ (g : HeapState). MayLoadWhole c.load_found.result g c.args.thread
    (steps.Load c.args.target c.args.object c.args.field) c.load_found.new.heap) c.self.view_is
    (may_load_whole c.load_found.result c.self.inside.heap c.load_found.new.heap c.args.thread c.args.target
    c.args.object c.args.field c.law.ensures.store c.law.ensures.heap c.law-2.ensures.steps
    c.law-2.ensures.marks c.law-2.ensures.phases c.law-2.ensures.tallies c.load_found.ensures.loads)
