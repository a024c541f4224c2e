use Rattle.drains.proofs.Ended.{globals_next}
use Rattle.drains.proofs.globals.mark_globals.Goals as goal

pub loop-number-preserved : goal.loop-number-preserved
loop-number-preserved c = globals_next c.args.heap.now c.loop-number.heap c.end_global.new.heap c.args.worker
    c.loop-number.number c.loop-number.invariant c.law.ensures.store c.law.ensures.heap c.end_global.ensures
