use Rattle.std.proofs.Common.{◌<◌, arith}
use Rattle.fast_paths.proofs.AtOnce.{field_there}
use Rattle.fast_paths.proofs.words.field_on.Goals as goal

pub returns-clause-value : goal.returns-clause-value
returns-clause-value c =
    let l = c.in_ok-layout.layout in
    let few : c.args.index < l.refs = omega (arith, c.if-index-from.false, c.from.ensures) in
    field_there c.args.heap.now c.args.spot.now.address c.args.index c.from-2.result l c.in_ok-layout.ensures few c.from-2.ensures
