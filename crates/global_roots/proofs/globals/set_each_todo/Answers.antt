use Rattle.std.proofs.Common.{ap, sym}
use Rattle.model.specs.Cycles.{set_todo_of}
use Rattle.thread_records.proofs.Looping.{mapped_more}
use Rattle.global_roots.proofs.globals.set_each_todo.Goals as goal

pub loop-global-preserved : goal.loop-global-preserved
loop-global-preserved c = mapped_more set_todo_of c.args.globals.now c.loop-global.globals
    c.loop-global.global-index c.global-item.result _ c.loop-global.invariant
    c.loop-global-test.true c.global-item.is (ap set_todo_of (sym c.global-item.is))
