use Rattle.std.proofs.Common.{arith}
use Rattle.managed.proofs.Several.{stores_found}
use Rattle.managed.proofs.managed.ManagedHeap.store_first.Goals as goal

pub loop-index-preserved : goal.loop-index-preserved
loop-index-preserved c = (
  c.store_found.ensures.found,
  stores_found c.args.thread c.args.object 0 c.args.self.now c.loop-index.self c.store_found.new.self c.args.sources.now
      c.loop-index.index c.store_found.result (omega (arith, c.loop-index-test.true)) c.if-not-store_found.false
      c.store_found.ensures.does c.loop-index.invariant.1,
)
