use Rattle.heap.specs.Views.{heap_of}
use Rattle.heap.proofs.Marking.{marks_keep, bit_keeps, bit_kept}
use Rattle.heap.proofs.heap.collecting.HeapRawCollectorEdits.set_mark.Goals as goal

pub invariant_of-self : goal.invariant_of-self
invariant_of-self c =
    let old = c.self.invariant in
    let store = c.self.inside.store in
    marks_keep (heap_of c.self.inside) _ _ _ old old.live
    (bit_keeps store _ _ _ _ _ old.mark c.mark_at.ensures.mark)
    (bit_kept store _ _ _ _ _ _ old.todo c.mark_at.ensures.todo)
