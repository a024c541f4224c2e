use Rattle.std.proofs.Common.{◌<◌, ◌+◌, refl, arith}
use Rattle.fast_paths.proofs.AtOnce.{datum_read, datum_there}
use Rattle.fast_paths.proofs.found.datum_found.Goals as goal

pub returns : goal.returns
returns c =
    let few : c.args.index < c.args.found.layout.nums = omega (arith, c.if-index-from.false, c.from.ensures) in
    datum_read c.args.heap.now c.args.thread c.args.object c.args.found.address c.args.index
    (1 + c.from-2.result + c.args.index) c.in_ok-value.value c.requires.uses
    (datum_there c.args.heap.now c.args.found.address c.args.index c.from-2.result c.args.index c.args.found.layout
    c.requires.layout few c.from-2.ensures refl) c.in_ok-value.ensures
