use Rattle.std.proofs.Common.{◌∙◌, sym, ap, arith, length}
use Rattle.std.specs.List.{slice_get}
use Rattle.model.specs.Marks.{entry_of}
use Rattle.forward.proofs.Ranked.{entries_many, none_ranked, number_ranked, rank_within}
use Rattle.forward.proofs.side.Side.number_of.Goals as goal

pub returns-then-not-test-clause-entry : goal.returns-then-not-test-clause-entry
returns-then-not-test-clause-entry c = ap (λ s. entry_of s c.args.offset) (sym c.self.view_is)
    ∙ none_ranked c.self.inside.live c.self.inside.places c.self.inside.copied c.self.invariant.0
    c.args.offset (sym c.test.ensures ∙ c.if-not-test.true)

pub returns-clause-entry : goal.returns-clause-entry
returns-clause-entry c = ap (λ s. entry_of s c.args.offset) (sym c.self.view_is)
    ∙ number_ranked c.self.inside.live c.self.inside.places c.self.inside.copied c.self.invariant.0
    c.args.offset c.rank-index.result (sym c.test.ensures ∙ c.if-not-test.false) c.rank-index.ensures
    ∙ ap (λ s. slice_get s c.rank-index.result) c.self.view_is

pub returns-clause-there : goal.returns-clause-there
returns-clause-there c =
    let within = rank_within c.self.inside.live c.args.offset (sym c.test.ensures ∙ c.if-not-test.false) in
    let many = entries_many c.self.inside.live c.self.inside.places c.self.inside.copied in
    let all = ap length c.self.view_is in
    omega (arith, within, c.rank-index.ensures, c.self.invariant.0.many, many, all)
