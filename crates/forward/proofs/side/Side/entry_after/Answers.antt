use Rattle.std.proofs.Common.{◌+◌, ◌-◌, ◌<◌, ◌∙◌, None, List, Bool, ap, subst, length, arith}
use Rattle.std.specs.List.{slice_get}
use Rattle.markbits.specs.Words.{IsFirstFrom, IsNextPlace}
use Rattle.forward.specs.Noting.{offset_of}
use Rattle.forward.proofs.Edited.{entry_is}
use Rattle.forward.proofs.Noted.{none_there, none_after, offset_after}
use Rattle.forward.proofs.side.Side.entry_after.Goals as goal

pub returns-then-index-len : goal.returns-then-index-len
returns-then-index-len c =
    none_there c.self.inside.live c.self.inside.places c.self.inside.copied c.args.index
    (omega (arith, c.if-index-len.true, c.len.ensures))
    ∙ ap (λ s. slice_get s c.args.index) c.self.view_is

pub returns-in_err-offset : goal.returns-in_err-offset
returns-in_err-offset c =
    c.from_residual.ensures
    ∙ none_after c.self.inside.live c.self.inside.places c.self.inside.copied c.self.invariant.0 c.args.index
    c.args.before c.requires.low
    (ap (λ s. offset_of (slice_get s (c.args.index - 1))) c.self.view_is ∙ c.requires.before)
    (omega (arith, c.if-index-len.false, c.len.ensures))
    (subst (λ (r : List Bool). IsNextPlace r (c.args.before + 1) None) c.row.ensures c.in_err-offset.ensures)
    ∙ ap (λ s. slice_get s c.args.index) c.self.view_is

pub returns : goal.returns
returns c =
    let live = c.self.inside.live in
    let places = c.self.inside.places in
    let l : c.args.index < length places = omega (arith, c.if-index-len.false, c.len.ensures) in
    let offset = offset_after live places c.self.inside.copied c.self.invariant.0 c.args.index
    c.args.before c.requires.low
    (ap (λ s. offset_of (slice_get s (c.args.index - 1))) c.self.view_is ∙ c.requires.before) c.in_ok-offset.offset l
    (subst (λ (r : List Bool). IsFirstFrom r (c.args.before + 1) c.in_ok-offset.offset) c.row.ensures
    c.in_ok-offset.ensures) in
    entry_is live places c.self.inside.copied c.self.invariant.0 c.args.index c.in_ok-offset.offset c.get.result
    c.test.result l offset c.get.ensures c.test.ensures
    ∙ ap (λ s. slice_get s c.args.index) c.self.view_is
