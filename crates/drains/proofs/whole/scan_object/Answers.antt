use Rattle.std.proofs.Common.{reverse}
use Rattle.drains.proofs.Waiting.{scan_ends, scan_waits}
use Rattle.drains.proofs.whole.scan_object.Goals as goal

pub returns-clause-scanned : goal.returns-clause-scanned
returns-clause-scanned c = scan_ends c.args.heap.now c.mark_fields.new.heap c.raw_clear_todo.new.self c.args.address
    c.in-Some-refs_on.refs (reverse c.args.waiting.now.items) (reverse c.mark_fields.new.waiting.items)
    c.in-Some-refs_on.ensures.value c.mark_fields.ensures.fields c.raw_clear_todo.ensures c.mark_fields.ensures.waits

pub returns-clause-waits : goal.returns-clause-waits
returns-clause-waits c = scan_waits c.mark_fields.new.heap c.raw_clear_todo.new.self c.args.address
    (reverse c.mark_fields.new.waiting.items) c.mark_fields.ensures.waits c.raw_clear_todo.ensures
