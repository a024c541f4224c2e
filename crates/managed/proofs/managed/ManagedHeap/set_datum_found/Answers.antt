use Rattle.std.proofs.Common.{subst}
use Rattle.model.specs.States.{HeapState}
use Rattle.managed.specs.Found.{MayStep}
use Rattle.model.specs.declared.steps.Step.TheVariants as steps
use Rattle.managed.proofs.AtOnce.{managed_in_one, may_set_step}
use Rattle.managed.proofs.managed.ManagedHeap.set_datum_found.Goals as goal

pub invariant_of-self : goal.invariant_of-self
invariant_of-self c =
    managed_in_one c.set_datum_found.result c.self.inside.heap c.set_datum_found.new.heap c.args.thread
    (steps.SetDatum c.args.object c.args.index c.args.value) c.law.ensures.store c.law.ensures.heap c.law-2.ensures.steps
    c.law-2.ensures.marks c.law-2.ensures.phases c.law-2.ensures.tallies c.set_datum_found.ensures.does c.self.invariant

pub returns-clause-does : goal.returns-clause-does
returns-clause-does c =
    subst (λ (g : HeapState). MayStep c.set_datum_found.result g c.args.thread (steps.SetDatum c.args.object c.args.index c.args.value)
    c.set_datum_found.new.heap) c.self.view_is
    (may_set_step c.set_datum_found.result c.self.inside.heap c.set_datum_found.new.heap c.args.thread c.args.object c.args.index c.args.value
    c.law.ensures.store c.law.ensures.heap c.law-2.ensures.steps c.law-2.ensures.marks c.law-2.ensures.phases
    c.law-2.ensures.tallies c.set_datum_found.ensures.does)
