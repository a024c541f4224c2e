use Rattle.managed.specs.Goings.{IsDrain}
use Rattle.managed.proofs.Counting.{drain_after}
use Rattle.managed.proofs.Going.{drains_same, goes_then}
use Rattle.managed.proofs.managed.ManagedHeap.drain_by.Goals as goal

pub returns-clause-goes : goal.returns-clause-goes
returns-clause-goes g c = goes_then (IsDrain c.args.worker) c.args.self.now c.prepare.new.self c.drain_prepared_by.new.self
    c.prepare.ensures.goes c.drain_prepared_by.ensures.goes

pub returns-clause-stands : goal.returns-clause-stands
returns-clause-stands g c = drains_same c.args.worker c.args.self.now c.drain_prepared_by.new.self
    (goes_then (IsDrain c.args.worker) c.args.self.now c.prepare.new.self c.drain_prepared_by.new.self
    c.prepare.ensures.goes c.drain_prepared_by.ensures.goes)

pub returns-clause-ends : goal.returns-clause-ends
returns-clause-ends g c = drain_after c.args.worker c.args.self.now c.prepare.new.self c.drain_prepared_by.new.self
    c.drain_prepared_by.result c.prepare.ensures.goes c.drain_prepared_by.ensures.ends
