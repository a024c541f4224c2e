use Rattle.std.proofs.Common.{subst}
use Rattle.std.specs.Prelude.{IfSome}
use Rattle.model.specs.States.{HeapState}
use Rattle.heap.specs.AtOnce.{IsOpenTo}
use Rattle.heap.specs.Views.{heap_of}
use Rattle.heap.proofs.Frames.{open_where}
use Rattle.heap.proofs.heap.Heap.frame_at_once.Goals as goal

pub returns-clause-open : goal.returns-clause-open
returns-clause-open c = subst (λ (g : HeapState). IfSome c.usable_frame.result (λ _. IsOpenTo g c.args.number))
    c.self.view_is (open_where (heap_of c.self.inside) c.args.number c.usable_frame.result c.usable_frame.ensures.value)
