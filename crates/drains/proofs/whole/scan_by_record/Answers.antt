use Rattle.std.proofs.Common.{reverse}
use Rattle.drains.proofs.Waiting.{scan_ends, scan_waits}
use Rattle.drains.proofs.whole.scan_by_record.Goals as goal

pub returns-clause-scanned : goal.returns-clause-scanned
returns-clause-scanned c = scan_ends c.args.heap.now c.mark_fields_by_record.new.heap c.raw_clear_todo.new.self c.args.address
    c.refs_at-refs.result (reverse c.args.waiting.now.items) (reverse c.mark_fields_by_record.new.waiting.items)
    c.refs_at-refs.ensures.value c.mark_fields_by_record.ensures.fields c.raw_clear_todo.ensures c.mark_fields_by_record.ensures.waits

pub returns-clause-waits : goal.returns-clause-waits
returns-clause-waits c = scan_waits c.mark_fields_by_record.new.heap c.raw_clear_todo.new.self c.args.address
    (reverse c.mark_fields_by_record.new.waiting.items) c.mark_fields_by_record.ensures.waits c.raw_clear_todo.ensures
