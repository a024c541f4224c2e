use Rattle.cycle.proofs.Replaying.{keeps_standing}
use Rattle.cycle.proofs.stepping.HeapStepping.step.Goals as goal

pub returns-clause-stands : goal.returns-clause-stands
returns-clause-stands c = keeps_standing c.args.self.now c.actor_row.new.heap c.args.actor c.args.step.now
    c.actor_row.result c.actor_row.ensures c.law.ensures.store c.law.ensures.heap c.law-2.ensures.steps
    c.law-2.ensures.marks c.law-2.ensures.phases c.law-2.ensures.tallies
