use Rattle.std.proofs.Common.{arith}
use Rattle.pieces.proofs.Overlays.{laid_parts}
use Rattle.pieces.proofs.copying.lay.Goals as goal

pub returns : goal.returns
returns c = laid_parts c.args.target.now c.args.words.now _ _ _ _ _ c.args.place
    (omega (arith, c.if-place-target.false))
    c.in-Some.ensures.piece c.in-Some.ensures.rest c.words_from-words.ensures c.copy_from_slice.ensures.after
    c.in-Some-cut_off.ensures.rest
