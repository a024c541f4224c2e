use Rattle.managed.proofs.Sequences.{then_more, then_stops}
use Rattle.collecting.specs.Collections.{EndsSettling, MarksAndEmpties}
use Rattle.collecting.proofs.cycles.collect_whole.Goals as goal

pub returns-in-Ok-clause-ends : goal.returns-in-Ok-clause-ends
returns-in-Ok-clause-ends g c = then_more EndsSettling (λ (u : Unit {0}). MarksAndEmpties c.args.percent)
    c.args.heap.now c.settle.new.heap c.run_cycle.new.heap c.settle.result tt c.run_cycle.result c.in-Ok.is
    c.settle.ensures c.run_cycle.ensures.ends

pub returns-in-Err-clause-ends : goal.returns-in-Err-clause-ends
returns-in-Err-clause-ends g c = then_stops EndsSettling (λ (u : Unit {0}). MarksAndEmpties c.args.percent)
    c.args.heap.now c.settle.new.heap c.settle.result c.in-Err.refusal c.in-Err.is c.settle.ensures
