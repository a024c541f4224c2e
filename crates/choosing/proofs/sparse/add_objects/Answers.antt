use Rattle.std.proofs.Common.{[], ◌∷◌, subst}
use Rattle.std.proofs.lemmas.List.Elements.{All-cons, All-nil}
use Rattle.std.specs.Prelude.{IfSome}
use Rattle.choosing.specs.Measures.{IsOnPage}
use Rattle.choosing.proofs.Measuring.{if_more}
use Rattle.choosing.proofs.sparse.add_objects.Goals as goal

pub returns-in-Some : goal.returns-in-Some
returns-in-Some c h some more =
    if_more (IsOnPage h) _ c.args.list.now.items (c.in-Some.objects ∷ []) c.push.new.self.items c.push.ensures.items some
    (All-cons (IsOnPage h) c.in-Some.objects [] (subst (λ o. IfSome o (IsOnPage h)) c.in-Some.is more)
    (All-nil (IsOnPage h)))
