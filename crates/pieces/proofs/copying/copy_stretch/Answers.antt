use Rattle.std.proofs.Common.{◌∙◌, [], sym, ap, arith}
use Rattle.std.specs.List.{slice_get}
use Rattle.pieces.specs.Pieces.{source_of, laid_by}
use Rattle.pieces.proofs.Stretches.{laid_none_yet}
use Rattle.pieces.proofs.copying.copy_stretch.Goals as goal

pub returns-then-copied-gt0-clause-laid : goal.returns-then-copied-gt0-clause-laid
returns-then-copied-gt0-clause-laid c = sym (c.copy_pieces-copied.ensures.laid [] c.args.base (omega arith))

pub returns-clause-laid : goal.returns-clause-laid
returns-clause-laid c =
    let s = source_of c.args.source.now in
    c.copy_entry.ensures ∙ ap (laid_by s c.args.base (slice_get c.args.source.now.side.now c.args.first))
    (laid_none_yet s c.args.base c.args.first c.copy_pieces-copied.result c.args.target.now
    c.copy_pieces-copied.new.target (omega (arith, c.if-copied-gt0.false))
    (c.copy_pieces-copied.ensures.laid [] c.args.base (omega arith)))
