use Rattle.std.proofs.Common.{◌∙◌, sym, ap, false}
use Rattle.model.specs.Threads.{set_crossed_of}
use Rattle.thread_records.proofs.Looping.{mapped_more}
use Rattle.thread_records.proofs.threads.uncross_each.Goals as goal

pub loop-thread-preserved : goal.loop-thread-preserved
loop-thread-preserved c = mapped_more (set_crossed_of false) c.args.threads.now c.loop-thread.threads
    c.loop-thread.thread-index c.thread-item.result c.set_crossed.new.self c.loop-thread.invariant
    c.loop-thread-test.true c.thread-item.is (c.set_crossed.ensures ∙ ap (set_crossed_of false) (sym c.thread-item.is))
