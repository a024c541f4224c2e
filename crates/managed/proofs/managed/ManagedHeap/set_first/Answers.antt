use Rattle.std.proofs.Common.{arith}
use Rattle.managed.proofs.Several.{data_found}
use Rattle.managed.proofs.managed.ManagedHeap.set_first.Goals as goal

pub loop-index-preserved : goal.loop-index-preserved
loop-index-preserved c = (
  c.set_datum_found.ensures.found,
  data_found c.args.thread c.args.object 0 c.args.self.now c.loop-index.self c.set_datum_found.new.self c.args.nums.now
      c.loop-index.index c.set_datum_found.result (omega (arith, c.loop-index-test.true)) c.if-not-set_datum_found.false
      c.set_datum_found.ensures.does c.loop-index.invariant.1,
)
