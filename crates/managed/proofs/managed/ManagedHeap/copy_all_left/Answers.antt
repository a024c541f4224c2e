use Rattle.std.proofs.Common.{arith, subst}
use Rattle.model.specs.Holding.{IsHeap}
use Rattle.managed.proofs.Prepared.{count_past, pages_first, pages_last, pages_next}
use Rattle.managed.proofs.managed.ManagedHeap.copy_all_left.Goals as goal

pub loop-index-init : goal.loop-index-init
loop-index-init c = pages_first c.args.worker c.args.self.now c.requires

pub loop-index-preserved : goal.loop-index-preserved
loop-index-preserved c = pages_next c.args.worker c.loop-index.index c.args.self.now c.loop-index.self
    c.copy_left.new.self c.loop-index.invariant c.copy_left.ensures.done

pub returns-clause-ready : goal.returns-clause-ready
returns-clause-ready c = pages_last c.args.worker c.loop-index.index c.args.self.now c.loop-index.self
    c.loop-index.invariant (subst IsHeap c.heap-2.ensures c.law.ensures.heap)
    (count_past c.loop-index.index c.page_count-count.result c.memory.result.now c.heap.result.now c.args.self.now
    c.page_count-count.ensures.value c.memory.ensures c.heap.ensures (omega (arith, c.loop-index-test.false)))
