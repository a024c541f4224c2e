use Rattle.std.proofs.Common.{◌∙◌, sym, ap}
use Rattle.model.specs.Marks.{entry_of}
use Rattle.forward.proofs.Edited.{found_is}
use Rattle.forward.proofs.Ranked.{none_ranked, rank_within}
use Rattle.forward.proofs.side.Side.find.Goals as goal

pub returns-then-not-test : goal.returns-then-not-test
returns-then-not-test c = sym (none_ranked c.self.inside.live c.self.inside.places c.self.inside.copied
    c.self.invariant.0
    c.args.offset (sym c.test.ensures ∙ c.if-not-test.true)) ∙ ap (λ s. entry_of s c.args.offset) c.self.view_is

pub returns : goal.returns
returns c =
    let set = sym c.test.ensures ∙ c.if-not-test.false in
    let l = rank_within c.self.inside.live c.args.offset set in
    found_is c.self.inside.live c.self.inside.places c.self.inside.copied c.self.invariant.0 c.args.offset
    c.rank-index.result c.get.result c.test-2.result set c.rank-index.ensures
    c.get.ensures c.test-2.ensures
    ∙ ap (λ s. entry_of s c.args.offset) c.self.view_is
