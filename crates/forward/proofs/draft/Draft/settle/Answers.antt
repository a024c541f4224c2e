use Rattle.std.proofs.Common.{◌∙◌, ◌<◌, length, sym, subst}
use Rattle.model.specs.Owning.{Each}
use Rattle.forward.specs.Drafts.{DraftState}
use Rattle.forward.proofs.Drafted.{places_paged, settled_is}
use Rattle.forward.proofs.draft.Draft.settle.Goals as goal

pub planned-places-requires-clause-addresses : goal.planned-places-requires-clause-addresses
planned-places-requires-clause-addresses c = places_paged c.args.words c.args.targets.now c.self.inside.places
    c.requires.words c.requires.low c.requires.high
    (subst (λ (d : DraftState). Each d.places (λ p. p.0 < length c.args.targets.now)) (sym c.self.view_is)
    c.requires.counted)
    (subst (λ (d : DraftState). Each d.places (λ p. p.1 < c.args.words)) (sym c.self.view_is) c.requires.within)

pub returns : goal.returns
returns c = c.of.ensures ∙ settled_is c.args.words c.args.targets.now c.args.self c.self.inside.live c.self.inside.copied
    c.self.inside.places c.planned-places.result c.self.view_is c.self.invariant.flags c.planned-places.ensures
