use Rattle.managed.proofs.Gathering.{collected, rest_goes}
use Rattle.managed.proofs.managed.ManagedHeap.finish_mark_by.Goals as goal

pub returns-clause-goes : goal.returns-clause-goes
returns-clause-goes g c = rest_goes c.args.worker c.args.self.now c.finish_steps_by.new.self c.finish_steps_by.result
    c.finish_steps_by.ensures

pub returns-clause-stands : goal.returns-clause-stands
returns-clause-stands g c = collected c.args.worker c.args.self.now c.finish_steps_by.new.self
    (rest_goes c.args.worker c.args.self.now c.finish_steps_by.new.self c.finish_steps_by.result
    c.finish_steps_by.ensures)
