use Rattle.std.proofs.Common.{arith}
use Rattle.managed.proofs.Several.{data_more, data_stop}
use Rattle.managed.proofs.managed.ManagedHeap.set_from.Goals as goal

pub loop-index-preserved : goal.loop-index-preserved
loop-index-preserved c = data_more c.args.thread c.args.object c.args.first c.args.self.now c.loop-index.self
    c.set_datum.new.self c.args.nums.now c.loop-index.index c.set_datum.result c.in_default.field-0
    (omega (arith, c.loop-index-test.true)) c.in_default.is c.set_datum.ensures.does c.set_datum.ensures.stands
    c.loop-index.invariant

pub returns-in-Err : goal.returns-in-Err
returns-in-Err c = data_stop c.args.thread c.args.object c.args.first c.args.self.now c.loop-index.self c.set_datum.new.self
    c.args.nums.now c.loop-index.index c.set_datum.result c.in-Err.refusal (omega (arith, c.loop-index-test.true))
    c.in-Err.is c.set_datum.ensures.does c.loop-index.invariant
