use Rattle.std.proofs.Common.{rules, [], ◌∷◌}
use Rattle.tokens.proofs.Moves.{begins}
use Rattle.tokens.proofs.tokens.BlankCell.new.Goals as goal

pub ruled-requires : goal.ruled-requires
ruled-requires c = (search rules, (search rules, begins (0 ∷ [])))
