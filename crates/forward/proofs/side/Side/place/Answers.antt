use Rattle.std.proofs.Common.{◌<◌, ◌∙◌, ap, length, arith}
use Rattle.std.specs.List.{slice_get}
use Rattle.forward.specs.Noting.{place_of}
use Rattle.forward.proofs.Noted.{none_there, place_read}
use Rattle.forward.proofs.side.Side.place.Goals as goal

pub returns-then-index-len : goal.returns-then-index-len
returns-then-index-len c =
    ap place_of
    (none_there c.self.inside.live c.self.inside.places c.self.inside.copied c.args.index
    (omega (arith, c.if-index-len.true, c.len.ensures)))
    ∙ ap (λ s. place_of (slice_get s c.args.index)) c.self.view_is

pub returns : goal.returns
returns c =
    let places = c.self.inside.places in
    let l : c.args.index < length places = omega (arith, c.if-index-len.false, c.len.ensures) in
    place_read c.self.inside.live places c.self.inside.copied c.args.index c.get.result l
    c.get.ensures
    ∙ ap (λ s. place_of (slice_get s c.args.index)) c.self.view_is
