use Rattle.std.proofs.Common.{◌+◌, ◌-◌, ◌∙◌, arith}
use Rattle.pieces.specs.Pieces.{source_of}
use Rattle.pieces.proofs.Stretches.{laid_further}
use Rattle.pieces.proofs.copying.copy_entries.Goals as goal

pub loop-done-preserved : goal.loop-done-preserved
loop-done-preserved c =
    let i = c.loop-done.done in
    let n = c.copy_stretch-done.result in
    c.loop-done.invariant
    ∙ laid_further (source_of c.args.source.now) c.args.base (c.args.first + i) (c.args.first + (i + n)) n
    (c.args.count - (i + n)) (c.args.count - i) c.loop-done.target c.copy_stretch-done.new.target
    (omega (arith, c.copy_stretch-done.ensures.count)) (omega arith) c.copy_stretch-done.ensures.laid
