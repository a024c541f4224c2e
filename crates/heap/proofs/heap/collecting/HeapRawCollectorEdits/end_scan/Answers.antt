use Rattle.std.proofs.Common.{false}
use Rattle.heap.specs.Views.{heap_of}
use Rattle.heap.proofs.Marking.{todo_keeps}
use Rattle.heap.proofs.heap.collecting.HeapRawCollectorEdits.end_scan.Goals as goal

pub invariant_of-self : goal.invariant_of-self
invariant_of-self c = todo_keeps (heap_of c.self.inside) _ c.args.scan.object false c.self.invariant c.put_indexed_bit.ensures
