use Rattle.managed.proofs.Running.{managed_step}
use Rattle.managed.proofs.managed.ManagedHeap.step.Goals as goal

pub invariant_of-self : goal.invariant_of-self
invariant_of-self c = managed_step c.self.inside.heap c.step.new.self c.args.actor c.args.step.now c.step.result
    c.step.ensures.does c.step.ensures.stands c.self.invariant
