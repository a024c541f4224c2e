use Rattle.std.proofs.Common.{eqb}
use Rattle.std.specs.HashMap.{get}
use Rattle.verify.proofs.Sharing.{least_twins_from}
use Rattle.verify.proofs.births.least_twins.Goals as goal

pub returns : goal.returns
returns c =
    let noted = get eqb c.in_ok-births.births.addresses in
    least_twins_from c.args.chart.now noted c.args.spots.now c.least_shared.result
    c.requires.sized c.requires.spots c.in_ok-births.ensures c.least_shared.ensures
