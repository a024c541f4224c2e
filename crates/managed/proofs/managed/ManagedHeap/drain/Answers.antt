use Rattle.managed.specs.Goings.{IsDrain}
use Rattle.managed.proofs.Counting.{drain_after}
use Rattle.managed.proofs.Going.{drains_same, goes_then}
use Rattle.managed.proofs.managed.ManagedHeap.drain.Goals as goal

pub returns-clause-goes : goal.returns-clause-goes
returns-clause-goes c = goes_then (IsDrain c.args.worker) c.args.self.now c.prepare.new.self c.drain_prepared.new.self
    c.prepare.ensures.goes c.drain_prepared.ensures.goes

pub returns-clause-stands : goal.returns-clause-stands
returns-clause-stands c = drains_same c.args.worker c.args.self.now c.drain_prepared.new.self
    (goes_then (IsDrain c.args.worker) c.args.self.now c.prepare.new.self c.drain_prepared.new.self
    c.prepare.ensures.goes c.drain_prepared.ensures.goes)

pub returns-clause-ends : goal.returns-clause-ends
returns-clause-ends c = drain_after c.args.worker c.args.self.now c.prepare.new.self c.drain_prepared.new.self
    c.drain_prepared.result c.prepare.ensures.goes c.drain_prepared.ensures.ends
