use Rattle.waves.proofs.Drained.{objects_none}
use Rattle.waves.proofs.waving.scan_some.Goals as goal

pub returns-clause-done : goal.returns-clause-done
returns-clause-done g c = objects_none c.args.heap.now c.scan_at_once-objects.new.heap c.scan_objects.new.heap c.args.worker
    c.scan_at_once-objects.result c.scan_objects.result.objects c.scan_at_once-objects.ensures.done
    c.if-objects-ne0.false c.scan_objects.ensures.done
