use Rattle.std.proofs.Common.{◌∙◌, ap, map}
use Rattle.model.specs.Bits.{blank_row}
use Rattle.heap.specs.Views.{heap_of}
use Rattle.heap.proofs.Cycling.{ended_keeps}
use Rattle.heap.proofs.heap.collecting.HeapRawCollectorEdits.end_mark.Goals as goal

pub invariant_of-self : goal.invariant_of-self
invariant_of-self c = ended_keeps (heap_of c.self.inside) _ _ _ _ _ _ c.self.invariant
    c.end_pages.ensures c.give_up_rows.ensures (c.swap.ensures.here ∙ c.give_up_rows-3.ensures)
    (c.clear_all.ensures ∙ ap (map blank_row) (c.swap.ensures.there ∙ c.give_up_rows-2.ensures))
    c.give_up_indexed_rows.ensures c.clear_all-2.ensures
