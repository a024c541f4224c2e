use Rattle.std.proofs.Common.{Bool, List, ap, ◌∙◌}
use Rattle.markbits.specs.Ranks.{rank_of}
use Rattle.markbits.proofs.Cleared.{rank_padded}
use Rattle.markbits.proofs.rows.Row.rank.Goals as goal

pub returns : goal.returns
returns c = c.rank.ensures ∙ rank_padded c.self.inside.len c.self.inside.bits c.args.offset
    ∙ ap (λ (r : List Bool). rank_of r c.args.offset) c.self.view_is
