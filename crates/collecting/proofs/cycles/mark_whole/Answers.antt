use Rattle.managed.proofs.Sequences.{then_more, then_stops}
use Rattle.collecting.specs.Collections.{EndsDueMark, EndsSettling}
use Rattle.collecting.proofs.cycles.mark_whole.Goals as goal

pub returns-in-Ok : goal.returns-in-Ok
returns-in-Ok g c = then_more EndsSettling (λ (u : Unit {0}). EndsDueMark) c.args.heap.now c.settle.new.heap
    c.mark_due.new.heap c.settle.result tt c.mark_due.result c.in-Ok.is c.settle.ensures c.mark_due.ensures.ends

pub returns-in-Err : goal.returns-in-Err
returns-in-Err g c = then_stops EndsSettling (λ (u : Unit {0}). EndsDueMark) c.args.heap.now c.settle.new.heap
    c.settle.result c.in-Err.refusal c.in-Err.is c.settle.ensures
