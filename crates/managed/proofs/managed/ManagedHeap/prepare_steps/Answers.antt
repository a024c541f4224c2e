use Rattle.managed.specs.Goings.{IsDrain}
use Rattle.managed.proofs.Going.{goes_then}
use Rattle.managed.proofs.managed.ManagedHeap.prepare_steps.Goals as goal

pub returns-then-may_work-clause-goes : goal.returns-then-may_work-clause-goes
returns-then-may_work-clause-goes c = goes_then (IsDrain c.args.worker) c.args.self.now c.finish_fields.new.self
    c.copy_all_left.new.self c.finish_fields.ensures.goes c.copy_all_left.ensures.goes
