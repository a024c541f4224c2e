use Rattle.std.proofs.Common.{◌≡◌, ◌∙◌, ap, sym, subst}
use Rattle.model.specs.declared.records.PageState.TheVariants.{Closed}
use Rattle.model.specs.Owning.{Each}
use Rattle.model.specs.Stores.{state_at}
use Rattle.model.specs.States.{HeapState}
use Rattle.heap.specs.Views.{heap_of}
use Rattle.heap.proofs.Moving.{none_gone, protection_keeps}
use Rattle.heap.proofs.heap.Heap.raw_start_protection.Goals as goal

pub protect-requires-clause-kept : goal.protect-requires-clause-kept
protect-requires-clause-kept c = none_gone c.self.inside.store
    (c.self.invariant.idle (ap (λ (h : HeapState). h.phase) c.self.view_is ∙ c.requires.idle))

pub invariant_of-self : goal.invariant_of-self
invariant_of-self c = protection_keeps (heap_of c.self.inside) _ _ c.args.pages.now c.self.invariant
    c.protect.ensures.pages
    (subst (λ (h : HeapState). Each c.args.pages.now (λ n. state_at h.store n ≡ Closed)) (sym c.self.view_is)
    c.requires.closed) c.protect.ensures.stays c.uncross_all.ensures
