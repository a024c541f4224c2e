use Rattle.std.proofs.Common.{◌<◌, ◌∙◌, sym, ap, length, arith}
use Rattle.std.specs.List.{slice_get}
use Rattle.forward.specs.Noting.{place_to_copy}
use Rattle.forward.proofs.Noted.{none_there, told_none, told_place}
use Rattle.forward.proofs.side.Side.place_to_copy.Goals as goal

pub returns-then-number-len : goal.returns-then-number-len
returns-then-number-len c =
    ap place_to_copy
    (none_there c.self.inside.live c.self.inside.places c.self.inside.copied c.args.number
    (omega (arith, c.if-number-len.true, c.len.ensures)))
    ∙ ap (λ s. place_to_copy (slice_get s c.args.number)) c.self.view_is

pub returns-then-test : goal.returns-then-test
returns-then-test c =
    told_none c.self.inside.live c.self.inside.places c.self.inside.copied c.args.number
    (omega (arith, c.if-number-len.false, c.len.ensures)) (sym c.if-test.true ∙ c.test.ensures)
    ∙ ap (λ s. place_to_copy (slice_get s c.args.number)) c.self.view_is

pub returns : goal.returns
returns c =
    let places = c.self.inside.places in
    let l : c.args.number < length places = omega (arith, c.if-number-len.false, c.len.ensures) in
    told_place c.self.inside.live places c.self.inside.copied c.self.invariant.0 c.args.number l
    (sym c.if-test.false ∙ c.test.ensures) c.get.result c.get.ensures
    ∙ ap (λ s. place_to_copy (slice_get s c.args.number)) c.self.view_is
