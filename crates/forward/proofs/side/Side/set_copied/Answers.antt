use Rattle.std.proofs.Common.{◌≡◌, ◌∙◌, sym, ap, subst, set, true, map, None}
use Rattle.model.specs.Marks.{entry_of}
use Rattle.model.specs.Moves.{set_copied_of}
use Rattle.forward.specs.Ranked.{entries_of}
use Rattle.forward.proofs.Copies.{none_noted}
use Rattle.forward.proofs.Edited.{noted}
use Rattle.forward.proofs.Ranked.{none_ranked}
use Rattle.forward.proofs.side.Side.set_copied.Goals as goal

pub returns-then-test : goal.returns-then-test
returns-then-test c =
    ap (entries_of c.self.inside.live c.self.inside.places)
    (c.set.ensures ∙ ap (λ i. set c.self.inside.copied i true) c.rank-index.ensures)
    ∙ noted c.self.inside.live c.self.inside.places c.self.inside.copied c.self.invariant.0 c.args.offset
    (sym c.test.ensures ∙ c.if-test.true)
    ∙ ap (map (set_copied_of c.args.offset)) c.self.view_is

pub returns-else-test : goal.returns-else-test
returns-else-test c = none_noted c.args.offset c.args.self.now
    (subst (λ s. entry_of s c.args.offset ≡ None) c.self.view_is
    (none_ranked c.self.inside.live c.self.inside.places c.self.inside.copied c.self.invariant.0 c.args.offset
    (sym c.test.ensures ∙ c.if-test.false)))
