use Rattle.std.proofs.Common.{subst}
use Rattle.std.proofs.lemmas.List.Elements.{All-pop}
use Rattle.std.specs.Prelude.{IfSome}
use Rattle.std.specs.List.{All}
use Rattle.choosing.specs.Measures.{IfMeasured, IsOnPage}
use Rattle.choosing.proofs.Measuring.{if_more}
use Rattle.choosing.proofs.threading.take_objects.Goals as goal

pub loop-part-preserved-in-Some-part : goal.loop-part-preserved-in-Some-part
loop-part-preserved-in-Some-part c h all =
    let before = c.loop-part.invariant h all in
    let popped = All-pop (IfMeasured h) _ _ c.pop.result c.pop.ensures.items before.1 in
    let here : All (IsOnPage h) c.in-Some-part.found.objects.items =
    subst (IfMeasured h) c.in-Some-part.is (subst (λ o. IfSome o (IfMeasured h)) c.in-Some.is popped.1) in (
      if_more (IsOnPage h) _ c.loop-part.list.items c.in-Some-part.found.objects.items _ c.append.ensures.items before.0
          here,
      popped.0,
    )

pub loop-part-preserved : goal.loop-part-preserved
loop-part-preserved c h all =
    let before = c.loop-part.invariant h all in
    let popped = All-pop (IfMeasured h) _ _ c.pop.result c.pop.ensures.items before.1 in
    (before.0, popped.0)
