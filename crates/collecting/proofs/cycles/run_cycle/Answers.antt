use Rattle.managed.proofs.Sequences.{then_more, then_stops}
use Rattle.collecting.specs.Collections.{ChoosesAndEmpties, EndsDueMark}
use Rattle.collecting.proofs.Collections.{due_calm}
use Rattle.collecting.proofs.cycles.run_cycle.Goals as goal

pub returns-in-Ok-clause-ends : goal.returns-in-Ok-clause-ends
returns-in-Ok-clause-ends g c = then_more EndsDueMark (ChoosesAndEmpties c.args.percent) c.args.heap.now
    c.mark_due.new.heap c.empty_after.new.heap c.mark_due.result c.in-Ok.live c.empty_after.result c.in-Ok.is
    c.mark_due.ensures.ends c.empty_after.ensures.ends

pub returns-in-Err-clause-ends : goal.returns-in-Err-clause-ends
returns-in-Err-clause-ends g c = then_stops EndsDueMark (ChoosesAndEmpties c.args.percent) c.args.heap.now
    c.mark_due.new.heap c.mark_due.result c.in-Err.refusal c.in-Err.is c.mark_due.ensures.ends

pub returns-in-Ok-clause-scrubbed : goal.returns-in-Ok-clause-scrubbed
returns-in-Ok-clause-scrubbed g c = c.empty_after.ensures.scrubbed
    (due_calm c.args.heap.now c.mark_due.new.heap c.mark_due.result c.in-Ok.live c.in-Ok.is c.mark_due.ensures.ends)
