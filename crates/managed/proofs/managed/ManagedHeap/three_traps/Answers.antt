use Rattle.std.proofs.Common.{subst}
use Rattle.model.specs.Holding.{IsHeap}
use Rattle.model.specs.Owning.{IsStore}
use Rattle.model.specs.States.{HeapState}
use Rattle.managed.proofs.Clearing.{three_left}
use Rattle.managed.proofs.managed.ManagedHeap.three_traps.Goals as goal

pub returns : goal.returns
returns c = three_left c.args.self.now _ _ c.args.thread
    (subst (λ (h : HeapState). IsStore h.store) c.heap.ensures c.law-2.ensures.store)
    (subst IsHeap c.heap.ensures c.law-2.ensures.heap) c.law.ensures.holds
