use Rattle.heap.specs.Views.{heap_of}
use Rattle.heap.proofs.Cycling.{started_keeps}
use Rattle.heap.proofs.heap.collecting.HeapRawCollectorEdits.start_mark.Goals as goal

pub invariant_of-self : goal.invariant_of-self
invariant_of-self c =
    started_keeps (heap_of c.self.inside) _ _ _ c.self.invariant c.uncross_all.ensures c.set_all_todo.ensures
