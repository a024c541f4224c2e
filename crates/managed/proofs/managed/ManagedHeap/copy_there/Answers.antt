use Rattle.managed.proofs.Prepared.{page_done}
use Rattle.managed.proofs.managed.ManagedHeap.copy_there.Goals as goal

pub returns-clause-done : goal.returns-clause-done
returns-clause-done c = (page_done c.args.worker c.args.page c.args.self.now c.step.new.self _ _ c.step.result
    c.law.ensures.holds c.requires.free c.requires.low c.requires.high c.requires.left c.step.ensures.does
    c.step.ensures.stands).0

pub returns-clause-goes : goal.returns-clause-goes
returns-clause-goes c = (page_done c.args.worker c.args.page c.args.self.now c.step.new.self _ _ c.step.result
    c.law.ensures.holds c.requires.free c.requires.low c.requires.high c.requires.left c.step.ensures.does
    c.step.ensures.stands).1
