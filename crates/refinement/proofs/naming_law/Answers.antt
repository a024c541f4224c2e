use Rattle.refinement.proofs.Wholeness.{names_whole}
use Rattle.refinement.proofs.naming_law.Goals as goal

pub returns : goal.returns
returns c = names_whole
