use Rattle.std.proofs.Common.{Bool, List, false, set, ap, ◌∙◌}
use Rattle.markbits.specs.Cleared.{padded}
use Rattle.markbits.proofs.Cleared.{unset_there}
use Rattle.markbits.proofs.rows.Row.unset.Goals as goal

pub returns : goal.returns
returns c = ap (padded c.self.inside.len) c.unset.ensures
    ∙ unset_there c.self.inside.len c.args.offset c.self.inside.bits
    ∙ ap (λ (r : List Bool). set r c.args.offset false) c.self.view_is
