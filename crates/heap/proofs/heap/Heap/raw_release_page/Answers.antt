use Rattle.heap.specs.Views.{heap_of}
use Rattle.heap.proofs.Moving.{release_keeps}
use Rattle.heap.proofs.heap.Heap.raw_release_page.Goals as goal
use Rattle.std.proofs.Common.{◌∙◌, ap}
use Rattle.model.specs.States.{HeapState}
use Rattle.model.specs.Stores.{state_at}

pub invariant_of-self : goal.invariant_of-self
invariant_of-self c = release_keeps (heap_of c.self.inside) _ c.args.page c.self.invariant
    (ap (λ (h : HeapState). state_at h.store c.args.page) c.self.view_is ∙ c.requires) c.release.ensures
