use Rattle.std.proofs.Common.{◌∙◌, ap, get_or, false, arith, lt-ltb}
use Rattle.forward.proofs.Flagged.{flag_below, flag_above}
use Rattle.forward.proofs.flags.Flags.test.Goals as goal

pub returns-then-number-self : goal.returns-then-number-self
returns-then-number-self c =
    lt-ltb _ _ c.if-number-self.true
    ∙ flag_below c.self.inside.done c.args.number c.self.inside.row c.if-number-self.true
    ∙ ap (λ s. get_or s c.args.number false) c.self.view_is

pub returns-else-number-self : goal.returns-else-number-self
returns-else-number-self c =
    c.test.ensures
    ∙ flag_above c.self.inside.done c.args.number c.self.inside.row c.self.invariant.within
    (omega (arith, c.if-number-self.false))
    ∙ ap (λ s. get_or s c.args.number false) c.self.view_is
