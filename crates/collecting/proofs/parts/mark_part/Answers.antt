use Rattle.std.proofs.Common.{◌∙◌, ap}
use Rattle.std.specs.Prelude.{Ok}
use Rattle.collecting.proofs.Staged.{marks_ended, marks_on, marks_stop}
use Rattle.collecting.proofs.parts.mark_part.Goals as goal

pub returns-in-Ok-true : goal.returns-in-Ok-true
returns-in-Ok-true c = marks_ended c.args.parts.now c.begin_choosing.new.self c.args.heap.now c.mark_some.new.heap
    c.mark_some.result (c.in-Ok-true.is ∙ ap Ok c.in-Ok-true.field-0-test) c.mark_some.ensures c.begin_choosing.ensures

pub returns-in-Ok-false : goal.returns-in-Ok-false
returns-in-Ok-false c = marks_on c.args.parts.now c.args.heap.now c.mark_some.new.heap c.mark_some.result
    (c.in-Ok-false.is ∙ ap Ok c.in-Ok-false.field-0-test) c.mark_some.ensures

pub returns-in-Err : goal.returns-in-Err
returns-in-Err c = marks_stop c.args.parts.now c.args.heap.now c.mark_some.new.heap c.mark_some.result
    c.in-Err.refusal c.in-Err.is c.mark_some.ensures
