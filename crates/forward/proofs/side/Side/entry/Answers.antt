use Rattle.std.proofs.Common.{◌-◌, ◌∙◌, sym, ap, arith}
use Rattle.std.specs.List.{slice_get}
use Rattle.forward.specs.Noting.{offset_of}
use Rattle.forward.proofs.Noted.{kept_offset}
use Rattle.forward.proofs.side.Side.entry.Goals as goal

pub entry_after-requires-clause-before : goal.entry_after-requires-clause-before
entry_after-requires-clause-before c =
    ap (λ s. offset_of (slice_get s (c.args.index - 1))) (sym c.self.view_is)
    ∙ kept_offset c.self.inside.live c.self.inside.places c.self.inside.copied c.self.invariant.0
    c.self.inside.last c.self.inside.number c.args.index c.self.invariant.1
    (omega (arith, c.if-kept-len.true, c.len.ensures)) c.if-index-kept.true
