use Rattle.managed.proofs.Gathering.{collected, rest_goes}
use Rattle.managed.proofs.managed.ManagedHeap.finish_mark.Goals as goal

pub returns-clause-goes : goal.returns-clause-goes
returns-clause-goes c = rest_goes c.args.worker c.args.self.now c.finish_steps.new.self c.finish_steps.result
    c.finish_steps.ensures

pub returns-clause-stands : goal.returns-clause-stands
returns-clause-stands c = collected c.args.worker c.args.self.now c.finish_steps.new.self
    (rest_goes c.args.worker c.args.self.now c.finish_steps.new.self c.finish_steps.result
    c.finish_steps.ensures)
