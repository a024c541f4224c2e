use Rattle.std.proofs.Common.{subst}
use Rattle.model.specs.Holding.{IsHeap}
use Rattle.model.specs.Owning.{IsStore}
use Rattle.model.specs.States.{HeapState}
use Rattle.fast_paths.specs.AtOnce.{GivesDatum}
use Rattle.managed.proofs.AtOnce.{datum_stands}
use Rattle.managed.proofs.managed.ManagedHeap.datum_at_once.Goals as goal

pub returns-clause-stands : goal.returns-clause-stands
returns-clause-stands c =
    datum_stands c.args.self.now c.args.thread c.args.object c.args.index c.in_ok-value.value
    (subst (λ (g : HeapState). IsStore g.store) c.heap.ensures c.law.ensures.store)
    (subst IsHeap c.heap.ensures c.law.ensures.heap) c.law-2.ensures.steps c.law-2.ensures.marks
    c.law-2.ensures.phases c.law-2.ensures.tallies
    (subst (λ (g : HeapState). GivesDatum g c.args.thread c.args.object c.args.index c.in_ok-value.value) c.heap-2.ensures
    c.in_ok-value.ensures)
