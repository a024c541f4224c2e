use Rattle.std.proofs.Common.{◌∙◌, sym, ap, set, true, arith}
use Rattle.forward.specs.Flags.{flags_of}
use Rattle.forward.proofs.Flagged.{set_below, set_above}
use Rattle.forward.proofs.flags.Flags.set.Goals as goal

pub returns-then-number-self : goal.returns-then-number-self
returns-then-number-self c =
    ap (flags_of c.self.inside.done) c.put.ensures
    ∙ set_above c.self.inside.done c.args.number c.self.inside.row c.self.invariant.within
    (omega (arith, c.if-number-self.true))
    ∙ ap (λ s. set s c.args.number true) c.self.view_is

pub returns-else-number-self : goal.returns-else-number-self
returns-else-number-self c =
    sym c.self.view_is
    ∙ set_below c.self.inside.done c.args.number c.self.inside.row (omega (arith, c.if-number-self.false))
    ∙ ap (λ s. set s c.args.number true) c.self.view_is
