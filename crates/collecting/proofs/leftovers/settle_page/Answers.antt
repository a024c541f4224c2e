use Rattle.std.proofs.Common.{◌∙◌, ap, sym}
use Rattle.model.specs.States.{HeapState}
use Rattle.model.specs.Stores.{is_from, state_at}
use Rattle.collecting.proofs.Collections.{left_none, left_page}
use Rattle.collecting.proofs.leftovers.settle_page.Goals as goal

pub returns-then-is_from : goal.returns-then-is_from
returns-then-is_from c = left_page c.args.heap.now c.empty_page.new.self c.args.page c.empty_page.result c.requires
    (ap (λ (h : HeapState). is_from (state_at h.store c.args.page)) (sym c.heap.ensures) ∙ sym c.is_from.ensures
    ∙ c.if-is_from.true)
    c.empty_page.ensures

pub returns-else-is_from : goal.returns-else-is_from
returns-else-is_from c = left_none c.args.heap.now c.args.page
    (ap (λ (h : HeapState). is_from (state_at h.store c.args.page)) (sym c.heap.ensures) ∙ sym c.is_from.ensures
    ∙ c.if-is_from.false)
