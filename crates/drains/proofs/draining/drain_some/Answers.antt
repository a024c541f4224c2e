use Rattle.drains.proofs.Ended.{none_still, whole_drained, whole_stands, whole_end}
use Rattle.drains.proofs.draining.drain_some.Goals as goal

pub returns-clause-drained : goal.returns-clause-drained
returns-clause-drained c = whole_drained c.args.heap.now c.mark_globals.new.heap c.scan_objects.new.heap c.args.worker
    c.scan_objects.result.objects c.mark_globals.ensures.drained c.scan_objects.ensures.done.drained.drained

pub returns-clause-stands : goal.returns-clause-stands
returns-clause-stands c = whole_stands c.args.heap.now c.mark_globals.new.heap c.scan_objects.new.heap c.args.worker
    c.scan_objects.result.objects c.law.ensures.steps c.mark_globals.ensures.drained
    c.scan_objects.ensures.done.drained.drained

pub returns-clause-globals : goal.returns-clause-globals
returns-clause-globals c = none_still c.mark_globals.new.heap c.scan_objects.new.heap c.mark_globals.ensures.none
    c.scan_objects.ensures.done.globals

pub returns-clause-end : goal.returns-clause-end
returns-clause-end c = λ ended. whole_end c.mark_globals.new.heap c.scan_objects.new.heap c.args.worker
    c.mark_globals.ensures.none c.scan_objects.ensures.done.drained.ready c.scan_objects.ensures.done.globals
    (c.scan_objects.ensures.end ended)
