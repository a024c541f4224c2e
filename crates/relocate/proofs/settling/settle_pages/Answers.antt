use Rattle.std.proofs.Common.{ℕ, ◌≤◌, sym, ap, subst, arith, length}
use Rattle.model.specs.States.{HeapState}
use Rattle.model.proofs.Lists.{get_read}
use Rattle.relocate.specs.Drafts.{IsReadyFor}
use Rattle.relocate.proofs.Settlement.{same_there}
use Rattle.relocate.proofs.settling.settle_pages.Goals as goal

pub settle_page-requires-clause-ready : goal.settle_page-requires-clause-ready
settle_page-requires-clause-ready c =
    let k = c.loop-index.invariant in
    let i = c.loop-index.index in
    let draft = c.index_mut.result.now in
    let at = get_read c.loop-index.drafts.items i draft
    (omega (arith, c.loop-index-test.true, k.many, c.requires.many)) c.index_mut.ensures.value in
    subst (λ w. IsReadyFor w (length c.args.targets.now) c.replace-draft.result)
    (sym (ap (λ (h : HeapState). h.store.words) k.heap))
    (subst (IsReadyFor c.args.heap.now.store.words (length c.args.targets.now)) (sym c.replace-draft.ensures.value)
    (c.requires.ready i draft (same_there c.loop-index.drafts.items c.args.drafts.now.items i draft k.left at)))

pub settle_page-requires-clause-high : goal.settle_page-requires-clause-high
settle_page-requires-clause-high c i x at =
    subst (λ (n : ℕ). x ≤ n) (sym (ap (λ (h : HeapState). h.store.count) c.loop-index.invariant.heap))
    (c.requires.high i x at)
