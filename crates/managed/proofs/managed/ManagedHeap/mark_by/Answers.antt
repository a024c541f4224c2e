use Rattle.managed.proofs.Gathering.{collected, mark_goes}
use Rattle.managed.proofs.managed.ManagedHeap.mark_by.Goals as goal

pub returns-clause-goes : goal.returns-clause-goes
returns-clause-goes g c = mark_goes c.args.worker c.args.self.now c.mark_steps_by.new.self c.mark_steps_by.result
    c.mark_steps_by.ensures

pub returns-clause-stands : goal.returns-clause-stands
returns-clause-stands g c = collected c.args.worker c.args.self.now c.mark_steps_by.new.self
    (mark_goes c.args.worker c.args.self.now c.mark_steps_by.new.self c.mark_steps_by.result c.mark_steps_by.ensures)
