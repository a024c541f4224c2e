use Rattle.std.proofs.Common.{Bool, false, List, set, sym, ap, ◌∙◌}
use Rattle.markbits.specs.Cleared.{padded}
use Rattle.markbits.proofs.Cleared.{unset_there}
use Rattle.markbits.proofs.rows.Row.put.Goals as goal

pub returns-then-not-bit : goal.returns-then-not-bit
returns-then-not-bit c =
    ap (padded c.self.inside.len) c.put.ensures
    ∙ unset_there c.self.inside.len c.args.offset c.self.inside.bits
    ∙ ap (λ (r : List Bool). set r c.args.offset false) c.self.view_is
    ∙ ap (λ (b : Bool). set c.args.self.now c.args.offset b) (sym c.if-not-bit.true)
