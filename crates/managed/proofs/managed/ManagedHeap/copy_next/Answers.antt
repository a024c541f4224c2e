use Rattle.std.proofs.Common.{arith, subst}
use Rattle.model.specs.Holding.{IsHeap}
use Rattle.managed.proofs.Prepared.{count_past, left_first, left_last, left_next, left_one}
use Rattle.managed.proofs.managed.ManagedHeap.copy_next.Goals as goal

pub loop-index-init : goal.loop-index-init
loop-index-init c = left_first c.args.worker c.args.self.now

pub loop-index-preserved : goal.loop-index-preserved
loop-index-preserved c = left_next c.args.worker c.loop-index.index c.args.self.now c.loop-index.self
    c.copy_left.new.self c.copy_left.result c.loop-index.invariant c.if-copy_left.false c.copy_left.ensures.done
    c.copy_left.ensures.told

pub returns-then-copy_left : goal.returns-then-copy_left
returns-then-copy_left c = left_one c.args.worker c.loop-index.index c.args.self.now c.loop-index.self
    c.copy_left.new.self c.copy_left.result c.loop-index.invariant c.if-copy_left.true c.copy_left.ensures.told

pub returns : goal.returns
returns c = left_last c.args.worker c.loop-index.index c.args.self.now c.loop-index.self c.loop-index.invariant
    c.requires (subst IsHeap c.heap-3.ensures c.law.ensures.heap)
    (count_past c.loop-index.index c.page_count-count.result c.memory.result.now c.heap-2.result.now c.args.self.now
    c.page_count-count.ensures.value c.memory.ensures c.heap-2.ensures (omega (arith, c.loop-index-test.false)))
