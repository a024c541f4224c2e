use Rattle.collecting.proofs.Parted.{scanned_out, scanned_ready}
use Rattle.collecting.proofs.portions.scan_ready.Goals as goal

pub returns-then-portion : goal.returns-then-portion
returns-then-portion c = scanned_out c.args.heap.now c.scan_portion-portion.new.self
    c.scan_portion-portion.result.objects c.scan_portion-portion.ensures.objects
    (c.scan_portion-portion.ensures.end c.if-portion.true)

pub returns-else-portion : goal.returns-else-portion
returns-else-portion c = scanned_ready c.args.heap.now c.scan_portion-portion.new.self
    c.scan_portion-portion.result.objects c.scan_portion-portion.ensures.objects
