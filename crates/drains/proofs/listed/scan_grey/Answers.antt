use Rattle.std.proofs.Common.{sym, ◌∙◌}
use Rattle.drains.proofs.Scans.{none_beside, is_scanned}
use Rattle.drains.proofs.listed.scan_grey.Goals as goal

pub scan_object-requires : goal.scan_object-requires
scan_object-requires c = none_beside c.args.heap.now c.args.address c.args.waiting.now.items c.requires
    (sym c.is_free_todo.ensures ∙ c.if-not-is_free_todo.false)

pub returns-clause-scanned : goal.returns-clause-scanned
returns-clause-scanned c = is_scanned c.args.heap.now c.scan_object.new.heap c.note_all.new.heap c.args.address
    c.args.waiting.now.items c.scan_object.new.waiting.items c.requires
    (sym c.is_free_todo.ensures ∙ c.if-not-is_free_todo.false)
    c.scan_object.ensures.scanned c.note_all.ensures.heap
