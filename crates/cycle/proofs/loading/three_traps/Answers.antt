use Rattle.cycle.proofs.Traps.{three_traps_serve}
use Rattle.cycle.proofs.loading.three_traps.Goals as goal

pub returns : goal.returns
returns c = three_traps_serve
