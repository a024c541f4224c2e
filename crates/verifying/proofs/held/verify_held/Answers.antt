use Rattle.std.proofs.Common.{subst}
use Rattle.std.specs.Prelude.{IfOk}
use Rattle.model.specs.Holding.{IsHeap}
use Rattle.model.specs.Owning.{IsStore}
use Rattle.model.specs.States.{HeapState}
use Rattle.verify.specs.Faults.{VerdictIs}
use Rattle.verify.specs.Pictures.{image_of}
use Rattle.verifying.proofs.Sounding.{held_sound}
use Rattle.verifying.proofs.held.verify_held.Goals as goal

pub returns-clause-sound : goal.returns-clause-sound
returns-clause-sound c = held_sound c.args.heap.now c.verify.result c.law.ensures
    (subst (λ (h : HeapState). IsStore h.store) c.heap.ensures c.law-2.ensures.store)
    (subst IsHeap c.heap.ensures c.law-2.ensures.heap) c.law-3.ensures c.one_verdict.ensures
    (subst (λ (h : HeapState). IfOk c.verify.result (VerdictIs (image_of h))) c.heap-2.ensures c.verify.ensures)
