use Rattle.std.proofs.Common.{arith}
use Rattle.managed.proofs.Several.{loads_stop}
use Rattle.managed.proofs.managed.ManagedHeap.load_from.Goals as goal

pub returns-in-Err : goal.returns-in-Err
returns-in-Err c = loads_stop c.args.thread c.args.object c.args.first c.args.self.now c.loop-done.self c.read.new.self
    c.args.fields.now c.loop-done.done _ c.read.result c.in-Err.refusal (omega (arith, c.loop-done-test.true))
    c.in-Err.is c.read.ensures.loads c.read.ensures.stands c.loop-done.invariant
