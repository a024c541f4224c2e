use Rattle.std.proofs.Common.{◌∙◌, subst, sym}
use Rattle.std.proofs.lemmas.List.Elements.{All-pop}
use Rattle.std.specs.Prelude.{IfSome}
use Rattle.model.specs.States.{HeapState}
use Rattle.choosing.specs.Measures.{IsOnPage}
use Rattle.collecting.proofs.measured.keep_objects.Goals as goal

pub keep_objects-requires : goal.keep_objects-requires
keep_objects-requires c =
    let popped = All-pop (IsOnPage c.args.heap.now) _ _ c.pop.result c.pop.ensures.items c.loop-page.invariant.1 in
    subst (λ (h : HeapState). IsOnPage h c.in-Some.page) (sym c.loop-page.invariant.0)
    (subst (λ o. IfSome o (IsOnPage c.args.heap.now)) c.in-Some.is popped.1)

pub loop-page-preserved : goal.loop-page-preserved
loop-page-preserved c =
    let popped = All-pop (IsOnPage c.args.heap.now) _ _ c.pop.result c.pop.ensures.items c.loop-page.invariant.1 in
    (c.keep_objects.ensures ∙ c.loop-page.invariant.0, popped.0)
