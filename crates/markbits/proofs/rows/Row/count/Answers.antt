use Rattle.std.proofs.Common.{Bool, count_by, ap, ◌∙◌}
use Rattle.markbits.proofs.Cleared.{count_padded}
use Rattle.markbits.proofs.rows.Row.count.Goals as goal

pub returns-clause-value : goal.returns-clause-value
returns-clause-value c = c.count.ensures.value ∙ count_padded c.self.inside.len c.self.inside.bits
    ∙ ap (count_by (λ (b : Bool). b)) c.self.view_is
