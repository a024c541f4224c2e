use Rattle.managed.proofs.Gathering.{collected}
use Rattle.managed.proofs.Emptied.{protected_goes}
use Rattle.managed.proofs.managed.ManagedHeap.finish_emptying.Goals as goal

pub returns-clause-goes : goal.returns-clause-goes
returns-clause-goes c = protected_goes c.args.worker c.args.pages.now c.args.self.now c.empty_protected.new.self
    c.empty_protected.result c.empty_protected.ensures.ends

pub returns-clause-stands : goal.returns-clause-stands
returns-clause-stands c = collected c.args.worker c.args.self.now c.empty_protected.new.self
    (protected_goes c.args.worker c.args.pages.now c.args.self.now c.empty_protected.new.self c.empty_protected.result
    c.empty_protected.ensures.ends)
