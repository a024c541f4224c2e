use Rattle.collecting.proofs.Parted.{scanned_before, scanned_behind}
use Rattle.collecting.proofs.portions.scan_unready.Goals as goal

pub returns-then-prepare_some : goal.returns-then-prepare_some
returns-then-prepare_some c = scanned_before c.args.heap.now c.prepare_some.new.self c.prepare_some.result
    c.if-prepare_some.true c.prepare_some.ensures

pub returns-else-prepare_some : goal.returns-else-prepare_some
returns-else-prepare_some c = scanned_behind c.args.heap.now c.prepare_some.new.self c.scan.new.self
    c.prepare_some.result c.scan.result c.if-prepare_some.false c.prepare_some.ensures c.scan.ensures.goes
    c.scan.ensures.ends
