use Rattle.std.proofs.Common.{◌∙◌, ap, sym}
use Rattle.model.specs.Phases.{is_marking}
use Rattle.model.specs.States.{HeapState}
use Rattle.collecting.proofs.Collections.{due_rest, due_mark}
use Rattle.collecting.proofs.cycles.mark_due.Goals as goal

pub returns-then-is_marking-clause-ends : goal.returns-then-is_marking-clause-ends
returns-then-is_marking-clause-ends g c = due_rest c.args.heap.now c.finish.new.heap c.finish.result
    (ap (λ (h : HeapState). is_marking h.phase) (sym c.heap.ensures) ∙ ap is_marking (sym c.phase.ensures)
    ∙ sym c.is_marking.ensures ∙ c.if-is_marking.true)
    c.finish.ensures.ends

pub returns-else-is_marking-clause-ends : goal.returns-else-is_marking-clause-ends
returns-else-is_marking-clause-ends g c = due_mark c.args.heap.now c.mark.new.heap c.mark.result
    (ap (λ (h : HeapState). is_marking h.phase) (sym c.heap.ensures) ∙ ap is_marking (sym c.phase.ensures)
    ∙ sym c.is_marking.ensures ∙ c.if-is_marking.false)
    c.mark.ensures.ends
