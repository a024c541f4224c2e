use Rattle.std.proofs.Common.{Option, subst}
use Rattle.std.specs.Prelude.{IfSome}
use Rattle.choosing.specs.Choices.{AreOf}
use Rattle.choosing.specs.declared.sparse.Found.{Found}
use Rattle.choosing.proofs.Sums.{joined}
use Rattle.choosing.proofs.threading.add_next.Goals as goal

pub returns-in-Some : goal.returns-in-Some
returns-in-Some c =
    joined c.args.heap.now c.args.percent c.args.first c.args.end _ _ _ _ _ _ c.add_part.result c.requires.found
    (subst (λ (o : Option Found). IfSome o
    (λ p. AreOf c.args.heap.now c.args.percent c.args.first c.args.end p.pages.items p.live_words)) c.in-Some.is
    c.requires.part)
    c.add_part.ensures.pages c.add_part.ensures.words

pub returns-in_ok-part-in-None : goal.returns-in_ok-part-in-None
returns-in_ok-part-in-None c =
    joined c.args.heap.now c.args.percent c.args.first c.args.end _ _ _ _ _ _ c.add_part-in-None.result c.requires.found
    c.in_ok-part-in-None.ensures.found c.add_part-in-None.ensures.pages c.add_part-in-None.ensures.words
