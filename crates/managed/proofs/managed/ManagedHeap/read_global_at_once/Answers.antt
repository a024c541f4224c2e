use Rattle.model.specs.declared.steps.Step.TheVariants as steps
use Rattle.managed.proofs.AtOnce.{managed_at_once}
use Rattle.managed.proofs.managed.ManagedHeap.read_global_at_once.Goals as goal

pub invariant_of-self : goal.invariant_of-self
invariant_of-self c =
    managed_at_once c.load_global_at_once.result c.self.inside.heap c.load_global_at_once.new.heap c.args.thread
    (steps.LoadGlobal c.args.target c.args.global) c.law.ensures.store c.law.ensures.heap c.law-2.ensures.steps
    c.law-2.ensures.marks c.law-2.ensures.phases c.law-2.ensures.tallies c.load_global_at_once.ensures
    c.self.invariant
