use Rattle.std.proofs.Common.{◌∙◌, sym}
use Rattle.choosing.proofs.Numbered.{used_high, used_low}
use Rattle.choosing.proofs.sparse.measure_objects.Goals as goal

pub page_objects-requires-clause-low : goal.page_objects-requires-clause-low
page_objects-requires-clause-low c = used_low c.args.heap.now c.args.page c.law.ensures.store
    (sym c.is_in_use.ensures ∙ c.if-not-is_in_use.false)

pub page_objects-requires-clause-high : goal.page_objects-requires-clause-high
page_objects-requires-clause-high c = used_high c.args.heap.now c.args.page c.law.ensures.store
    (sym c.is_in_use.ensures ∙ c.if-not-is_in_use.false)
