use Rattle.drains.proofs.Ended.{none_still, whole_drained, whole_stands, whole_end}
use Rattle.waves.proofs.waving.drain_by.Goals as goal

pub returns-clause-drained : goal.returns-clause-drained
returns-clause-drained g c = whole_drained c.args.heap.now c.mark_globals.new.heap c.scan_by.new.heap c.args.worker
    c.scan_by.result c.mark_globals.ensures.drained c.scan_by.ensures.done.drained.drained

pub returns-clause-stands : goal.returns-clause-stands
returns-clause-stands g c = whole_stands c.args.heap.now c.mark_globals.new.heap c.scan_by.new.heap c.args.worker
    c.scan_by.result c.law.ensures.steps c.mark_globals.ensures.drained c.scan_by.ensures.done.drained.drained

pub returns-clause-globals : goal.returns-clause-globals
returns-clause-globals g c = none_still c.mark_globals.new.heap c.scan_by.new.heap c.mark_globals.ensures.none
    c.scan_by.ensures.done.globals

pub returns-clause-end : goal.returns-clause-end
returns-clause-end g c = λ few. whole_end c.mark_globals.new.heap c.scan_by.new.heap c.args.worker
    c.mark_globals.ensures.none c.scan_by.ensures.done.drained.ready c.scan_by.ensures.done.globals
    (c.scan_by.ensures.end few)
