use Rattle.std.proofs.Common.{◌≡◌, ◌∙◌, ◌++◌, ℕ, List, get_or, refl, subst, arith}
use Rattle.model.specs.Plans.{places_from}
use Rattle.model.specs.States.{HeapState}
use Rattle.relocate.specs.Drafts.{IsDraftOf, draft_sizes}
use Rattle.relocate.proofs.Planning.{all_planned, made_next, objects_planned, targets_planned}
use Rattle.relocate.proofs.drafting.draft_pages.Goals as goal

pub loop-index-preserved : goal.loop-index-preserved
loop-index-preserved c =
    let stays = c.loop-index.invariant.0 in (
      c.in_ok-draft.ensures.stays ∙ stays,
      made_next c.args.heap.now c.args.pages.now c.loop-index.index _ c.loop-index.drafts.items c.push.new.self.items
          c.in_ok-draft.draft c.loop-index.end c.draft_page.new.end c.loop-index.objects c.loop-index.targets _
          c.count_targets-targets.result c.loop-index-test.true refl c.loop-index.invariant.1
          (subst (λ (h : HeapState). IsDraftOf h (get_or c.args.pages.now c.loop-index.index 0) c.in_ok-draft.draft) stays
          c.in_ok-draft.ensures.draft)
          (subst (λ (h : HeapState). (ns : List ℕ)
          → places_from h.store.words c.loop-index.end.0 c.loop-index.end.1
          (draft_sizes h (get_or c.args.pages.now c.loop-index.index 0) ++ ns)
          ≡ c.in_ok-draft.draft.places ++ places_from h.store.words c.draft_page.new.end.0 c.draft_page.new.end.1 ns)
          stays c.in_ok-draft.ensures.places)
          c.count_targets-targets.ensures (omega (arith, c.len.ensures.value))
          (omega (arith, c.len.ensures.value, c.len.ensures.range)) c.in_ok-draft.ensures.near
          c.in_ok-push.ensures.items,
    )

pub returns-clause-plan : goal.returns-clause-plan
returns-clause-plan c = all_planned c.args.heap.now c.args.pages.now c.loop-index.index c.loop-index.drafts.items
    c.loop-index.end c.loop-index.objects c.loop-index.targets c.loop-index.invariant.1
    (omega (arith, c.loop-index-test.false))

pub returns-clause-objects : goal.returns-clause-objects
returns-clause-objects c = objects_planned c.args.heap.now c.args.pages.now c.loop-index.index
    c.loop-index.drafts.items c.loop-index.end c.loop-index.objects c.loop-index.targets c.loop-index.invariant.1
    (omega (arith, c.loop-index-test.false))

pub returns-clause-targets : goal.returns-clause-targets
returns-clause-targets c = targets_planned c.args.heap.now c.args.pages.now c.loop-index.index
    c.loop-index.drafts.items c.loop-index.end c.loop-index.objects c.loop-index.targets c.loop-index.invariant.1
    (omega (arith, c.loop-index-test.false))
