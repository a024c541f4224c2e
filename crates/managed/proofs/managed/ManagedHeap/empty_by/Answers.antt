use Rattle.managed.proofs.Gathering.{collected}
use Rattle.managed.proofs.Emptied.{emptying_goes}
use Rattle.managed.proofs.managed.ManagedHeap.empty_by.Goals as goal

pub returns-clause-goes : goal.returns-clause-goes
returns-clause-goes g c = emptying_goes c.args.worker c.args.pages.items c.args.self.now c.empty_steps.new.self
    c.empty_steps.result c.empty_steps.ensures.ends

pub returns-clause-stands : goal.returns-clause-stands
returns-clause-stands g c = collected c.args.worker c.args.self.now c.empty_steps.new.self
    (emptying_goes c.args.worker c.args.pages.items c.args.self.now c.empty_steps.new.self c.empty_steps.result
    c.empty_steps.ensures.ends)
