use Rattle.refinement.proofs.Packing.{pages_pack}
use Rattle.refinement.proofs.packing_law.Goals as goal

pub returns : goal.returns
returns c = pages_pack
