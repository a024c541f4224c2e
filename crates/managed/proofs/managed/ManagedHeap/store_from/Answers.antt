use Rattle.std.proofs.Common.{arith}
use Rattle.managed.proofs.Several.{stores_more, stores_stop}
use Rattle.managed.proofs.managed.ManagedHeap.store_from.Goals as goal

pub loop-index-preserved : goal.loop-index-preserved
loop-index-preserved c = stores_more c.args.thread c.args.object c.args.first c.args.self.now c.loop-index.self
    c.store.new.self c.args.sources.now c.loop-index.index c.store.result c.in_default.field-0
    (omega (arith, c.loop-index-test.true)) c.in_default.is c.store.ensures.does c.store.ensures.stands
    c.loop-index.invariant

pub returns-in-Err : goal.returns-in-Err
returns-in-Err c = stores_stop c.args.thread c.args.object c.args.first c.args.self.now c.loop-index.self c.store.new.self
    c.args.sources.now c.loop-index.index c.store.result c.in-Err.refusal (omega (arith, c.loop-index-test.true))
    c.in-Err.is c.store.ensures.does c.loop-index.invariant
