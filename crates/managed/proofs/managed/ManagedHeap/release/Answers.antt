use Rattle.std.proofs.Common.{subst}
use Rattle.model.specs.Owning.{IsStore}
use Rattle.model.specs.States.{HeapState}
use Rattle.managed.proofs.Emptied.{released}
use Rattle.managed.proofs.managed.ManagedHeap.release.Goals as goal

pub returns : goal.returns
returns c = released c.args.worker c.args.self.now c.step-reply.new.self c.args.page c.step-reply.result
    c.whether.result c.whether.ensures
    (subst (λ (h : HeapState). IsStore h.store) c.heap.ensures c.law.ensures.store) c.step-reply.ensures.does
    c.step-reply.ensures.stands
