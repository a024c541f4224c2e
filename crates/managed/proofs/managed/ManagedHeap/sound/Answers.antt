use Rattle.std.proofs.Common.{subst}
use Rattle.model.specs.Owning.{IsStore}
use Rattle.model.specs.States.{HeapState}
use Rattle.managed.proofs.managed.ManagedHeap.sound.Goals as goal

pub returns : goal.returns
returns c = c.naming_law.ensures c.args.self.now _ _
    (subst (λ (g : HeapState). IsStore g.store) c.heap.ensures c.law-2.ensures.store) c.law.ensures.holds
