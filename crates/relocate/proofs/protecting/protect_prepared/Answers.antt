use Rattle.std.proofs.Common.{◌∙◌, sym, ap, subst, length}
use Rattle.model.specs.Owning.{Each}
use Rattle.relocate.specs.Drafts.{IsReadyFor}
use Rattle.relocate.proofs.Planning.{drafts_many, plan_ready, protected_is}
use Rattle.relocate.proofs.protecting.protect_prepared.Goals as goal

pub settle_pages-requires-clause-many : goal.settle_pages-requires-clause-many
settle_pages-requires-clause-many c =
    drafts_many c.args.heap.now c.args.pages.now c.args.prepared.drafts.items c.requires.drafts

pub settle_pages-requires-clause-ready : goal.settle_pages-requires-clause-ready
settle_pages-requires-clause-ready c =
    let h = c.args.heap.now in
    subst (λ w. Each c.args.prepared.drafts.items (IsReadyFor w (length c.deref.result.now)))
    (sym c.open_targets.ensures.stays.words)
    (plan_ready h (length c.deref.result.now) c.args.pages.now c.args.prepared.drafts.items c.law.ensures.heap
    c.law.ensures.store.sized.words_low c.requires.drafts c.requires.plan
    (ap length c.deref.ensures.value ∙ c.open_targets.ensures.many ∙ c.requires.count))

pub returns : goal.returns
returns c = protected_is c.args.heap.now c.open_targets.new.heap c.settle_pages.new.heap c.raw_start_protection.new.self
    c.deref.result.now c.args.pages.now c.args.prepared.drafts.items c.args.prepared.count c.law.ensures.heap
    c.requires.once c.requires.drafts c.requires.plan c.requires.count c.open_targets.ensures.heap
    (c.deref.ensures.value ∙ c.open_targets.ensures.targets) c.open_targets.ensures.stays.words c.settle_pages.ensures
    c.raw_start_protection.ensures
