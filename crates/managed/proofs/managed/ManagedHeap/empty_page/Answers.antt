use Rattle.managed.proofs.Emptied.{page_then}
use Rattle.managed.proofs.managed.ManagedHeap.empty_page.Goals as goal

pub returns-in-Ok : goal.returns-in-Ok
returns-in-Ok c = page_then c.args.worker c.args.self.now c.step.new.self c.release.new.self c.args.page c.step.result
    c.in-Ok.field-0 c.release.result c.in-Ok.is c.step.ensures.does c.step.ensures.stands c.release.ensures
