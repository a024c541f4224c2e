use Rattle.std.proofs.Common.{◌<◌, arith}
use Rattle.fast_paths.proofs.AtOnce.{datum_there}
use Rattle.fast_paths.proofs.words.datum_on.Goals as goal

pub returns-clause-value : goal.returns-clause-value
returns-clause-value c =
    let l = c.in_ok-layout.layout in
    let few : c.args.index < l.nums = omega (arith, c.if-index-from.false, c.from.ensures) in
    datum_there c.args.heap.now c.args.spot.now.address c.args.index c.from-2.result c.from-3.result l c.in_ok-layout.ensures few
    c.from-2.ensures c.from-3.ensures
