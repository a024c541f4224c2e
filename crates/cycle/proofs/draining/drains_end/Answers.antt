use Rattle.cycle.proofs.EndOfDrains as ends
use Rattle.cycle.proofs.draining.drains_end.Goals as goal

pub returns : goal.returns
returns c = ends.drains_end
