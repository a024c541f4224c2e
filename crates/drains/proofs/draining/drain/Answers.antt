use Rattle.std.proofs.Common.{refl}
use Rattle.drains.proofs.Ended.{none_still, whole_drained, whole_stands, whole_end}
use Rattle.drains.proofs.draining.drain.Goals as goal

pub returns-clause-drained : goal.returns-clause-drained
returns-clause-drained c = whole_drained c.args.heap.now c.mark_globals.new.heap c.scan_objects-portion.new.heap
    c.args.worker c.scan_objects-portion.result.objects c.mark_globals.ensures.drained
    c.scan_objects-portion.ensures.done.drained.drained

pub returns-clause-stands : goal.returns-clause-stands
returns-clause-stands c = whole_stands c.args.heap.now c.mark_globals.new.heap c.scan_objects-portion.new.heap
    c.args.worker c.scan_objects-portion.result.objects c.law.ensures.steps c.mark_globals.ensures.drained
    c.scan_objects-portion.ensures.done.drained.drained

pub returns-clause-globals : goal.returns-clause-globals
returns-clause-globals c = none_still c.mark_globals.new.heap c.scan_objects-portion.new.heap c.mark_globals.ensures.none
    c.scan_objects-portion.ensures.done.globals

pub returns-clause-end : goal.returns-clause-end
returns-clause-end c = λ few. whole_end c.mark_globals.new.heap c.scan_objects-portion.new.heap c.args.worker
    c.mark_globals.ensures.none c.scan_objects-portion.ensures.done.drained.ready
    c.scan_objects-portion.ensures.done.globals
    (c.scan_objects-portion.ensures.end (c.scan_objects-portion.ensures.all refl few))
