use Rattle.managed.proofs.Gathering.{collected, mark_goes}
use Rattle.managed.proofs.managed.ManagedHeap.mark.Goals as goal

pub returns-clause-goes : goal.returns-clause-goes
returns-clause-goes c = mark_goes c.args.worker c.args.self.now c.mark_steps.new.self c.mark_steps.result
    c.mark_steps.ensures

pub returns-clause-stands : goal.returns-clause-stands
returns-clause-stands c = collected c.args.worker c.args.self.now c.mark_steps.new.self
    (mark_goes c.args.worker c.args.self.now c.mark_steps.new.self c.mark_steps.result c.mark_steps.ensures)
