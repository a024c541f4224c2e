use Rattle.std.proofs.Common.{◌∙◌, ap}
use Rattle.std.specs.Prelude.{Ok}
use Rattle.collecting.proofs.Parted.{scanned_mark, scanned_none, scanned_phase, scanned_some, scanned_stops}
use Rattle.collecting.proofs.portions.scan_or_end.Goals as goal

pub end_mark-requires-clause-nothing : goal.end_mark-requires-clause-nothing
end_mark-requires-clause-nothing c = scanned_none c.args.heap.now c.scan_some.new.heap c.scan_some.result
    (c.in-Ok-true.is ∙ ap Ok c.in-Ok-true.field-0-test)
    c.scan_some.ensures

pub end_mark-requires-clause-phase : goal.end_mark-requires-clause-phase
end_mark-requires-clause-phase c = scanned_phase c.args.heap.now c.scan_some.new.heap c.scan_some.result
    (c.in-Ok-true.is ∙ ap Ok c.in-Ok-true.field-0-test)
    c.scan_some.ensures c.requires

pub returns-in-Ok-true : goal.returns-in-Ok-true
returns-in-Ok-true c = scanned_mark c.args.heap.now c.scan_some.new.heap c.end_mark.new.heap c.scan_some.result
    c.end_mark.result (c.in-Ok-true.is ∙ ap Ok c.in-Ok-true.field-0-test) c.scan_some.ensures c.end_mark.ensures

pub returns-in-Ok-false : goal.returns-in-Ok-false
returns-in-Ok-false c = scanned_some c.args.heap.now c.scan_some.new.heap c.scan_some.result
    (c.in-Ok-false.is ∙ ap Ok c.in-Ok-false.field-0-test)
    c.scan_some.ensures

pub returns-in-Err : goal.returns-in-Err
returns-in-Err c = scanned_stops c.args.heap.now c.scan_some.new.heap c.scan_some.result c.in-Err.refusal
    c.requires c.in-Err.is
    c.scan_some.ensures
