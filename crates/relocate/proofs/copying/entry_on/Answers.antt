use Rattle.std.proofs.Common.{◌∙◌, ap}
use Rattle.std.specs.List.{slice_get}
use Rattle.model.specs.Bits.{of_page}
use Rattle.relocate.proofs.Entries.{entry_within, entry_paged}
use Rattle.relocate.proofs.copying.entry_on.Goals as goal

pub returns-then-is_emptied-clause-within : goal.returns-then-is_emptied-clause-within
returns-then-is_emptied-clause-within c = entry_within c.args.heap.now c.args.page c.args.entry _ c.law.ensures.heap
    (c.entry_on.ensures ∙ ap (λ sides. slice_get (of_page sides c.args.page) c.args.entry) c.sides.ensures)

pub returns-then-is_emptied-clause-paged : goal.returns-then-is_emptied-clause-paged
returns-then-is_emptied-clause-paged c = entry_paged c.args.heap.now c.args.page c.args.entry _ c.law.ensures.heap
    (c.entry_on.ensures ∙ ap (λ sides. slice_get (of_page sides c.args.page) c.args.entry) c.sides.ensures)
