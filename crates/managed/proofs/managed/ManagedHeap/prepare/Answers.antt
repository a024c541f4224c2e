use Rattle.managed.proofs.Going.{drains_same}
use Rattle.managed.proofs.managed.ManagedHeap.prepare.Goals as goal

pub returns-clause-stands : goal.returns-clause-stands
returns-clause-stands c = drains_same c.args.worker c.args.self.now c.prepare_steps.new.self
    c.prepare_steps.ensures.goes
