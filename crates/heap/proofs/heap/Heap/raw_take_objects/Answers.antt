use Rattle.std.proofs.Common.{◌≡◌, ◌+◌, ◌-◌, ◌*◌, ◌∙◌, Some, map, sym, ap, subst}
use Rattle.std.specs.List.{slice_get}
use Rattle.std.specs.Option.{IfSome, option_copied}
use Rattle.model.specs.Plans.{live_offsets, object_words}
use Rattle.model.specs.States.{HeapState}
use Rattle.model.proofs.OfPages.{of_page_some}
use Rattle.model.proofs.Tables.{row_short}
use Rattle.heap.proofs.Sizes.{sizes_taken}
use Rattle.heap.proofs.heap.Heap.raw_take_objects.Goals as goal

pub returns-clause-sizes : goal.returns-clause-sizes
returns-clause-sizes c =
    let row = c.in_ok-row.row.now in
    let live = c.self.inside.live in
    let there : slice_get live (c.args.page - 1) ≡ Some row = sym c.get.ensures ∙ ap option_copied c.in_ok-row.was in
    subst (λ (h : HeapState). IfSome c.take_objects.result (λ o. o.sizes
    ≡ map (λ o. object_words h (c.args.page * h.store.words + o)) (live_offsets h c.args.page))) c.self.view_is
    (sizes_taken _ c.args.page row (sym (of_page_some live c.args.page row c.requires.low there)) c.take_objects.result
    (row_short c.self.inside.store live (c.args.page - 1) row c.self.invariant.live there)
    c.take_objects.ensures.objects)
