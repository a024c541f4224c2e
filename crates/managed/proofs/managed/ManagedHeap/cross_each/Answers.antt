use Rattle.managed.specs.Goings.{IsCrossing}
use Rattle.managed.proofs.Crossed.{tried_more}
use Rattle.managed.proofs.Going.{goes_then}
use Rattle.managed.proofs.managed.ManagedHeap.cross_each.Goals as goal

pub loop-thread-preserved : goal.loop-thread-preserved
loop-thread-preserved c = record {
  goes = goes_then (IsCrossing c.args.worker) c.args.self.now c.loop-thread.self c.cross_one.new.self
      c.loop-thread.invariant.goes c.cross_one.ensures.goes;
  tried = tried_more c.args.worker c.loop-thread.self c.cross_one.new.self c.loop-thread.thread
      c.loop-thread.invariant.tried c.cross_one.ensures.goes c.cross_one.ensures.tried;
}
