use Rattle.std.proofs.Common.{subst}
use Rattle.model.specs.Holding.{IsHeap}
use Rattle.model.specs.Owning.{IsStore}
use Rattle.model.specs.States.{HeapState}
use Rattle.fast_paths.specs.AtOnce.{GivesSame}
use Rattle.managed.proofs.AtOnce.{same_stands}
use Rattle.managed.proofs.managed.ManagedHeap.same_at_once.Goals as goal

pub returns-clause-stands : goal.returns-clause-stands
returns-clause-stands c =
    same_stands c.args.self.now c.args.thread c.args.left c.args.right c.in_ok-truth.truth
    (subst (λ (g : HeapState). IsStore g.store) c.heap.ensures c.law.ensures.store)
    (subst IsHeap c.heap.ensures c.law.ensures.heap) c.law-2.ensures.steps c.law-2.ensures.marks
    c.law-2.ensures.phases c.law-2.ensures.tallies
    (subst (λ (g : HeapState). GivesSame g c.args.thread c.args.left c.args.right c.in_ok-truth.truth) c.heap-2.ensures
    c.in_ok-truth.ensures)
