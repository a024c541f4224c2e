use Rattle.model.specs.declared.steps.Actor.TheVariants.{Worker}
use Rattle.model.specs.declared.steps.Step.TheVariants as steps
use Rattle.cycle.proofs.Replaying.{keeps_standing}
use Rattle.cycle.proofs.stepping.copy_page_by.Goals as goal

pub returns-clause-stands : goal.returns-clause-stands
returns-clause-stands g c = keeps_standing c.args.heap.now c.copy_row_by.new.heap (Worker c.args.worker)
    (steps.CopyPage c.args.page) c.copy_row_by.result c.copy_row_by.ensures c.law.ensures.store c.law.ensures.heap
    c.law-2.ensures.steps c.law-2.ensures.marks c.law-2.ensures.phases c.law-2.ensures.tallies
