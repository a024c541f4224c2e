use Rattle.std.proofs.Common.{◌∙◌, ap, length}
use Rattle.model.specs.States.{HeapState}
use Rattle.managed.proofs.Prepared.{may_there, may_not}
use Rattle.managed.proofs.managed.ManagedHeap.may_work.Goals as goal

pub returns-then-may_scan : goal.returns-then-may_scan
returns-then-may_scan c = may_there c.args.worker (length c.workers.result.now) c.args.self.now c.heap.result.now
    c.may_scan.result c.heap.ensures c.may_scan.ensures c.if-may_scan.true
    (ap length c.workers.ensures ∙ ap (λ (h : HeapState). length h.workers) c.heap-then-may_scan.ensures)

pub returns-else-may_scan : goal.returns-else-may_scan
returns-else-may_scan c = may_not c.args.worker c.args.self.now c.heap.result.now c.may_scan.result c.heap.ensures
    c.may_scan.ensures c.if-may_scan.false
