use Rattle.std.proofs.Common.{◌+◌, ◌-◌, ◌≤◌, ◌∙◌, length, take, drop, refl, sym, ap, arith, leb-true}
use Rattle.pieces.specs.Pieces.{source_of}
use Rattle.pieces.proofs.Stretches.{laid_stretch}
use Rattle.pieces.proofs.copying.+copy_pieces.Goals as goal

pub returns-clause-laid : goal.returns-clause-laid
returns-clause-laid t c = λ front at z.
    let s = source_of c.args.source.now in
    let n = c.place_behind-place.result - c.args.base in
    let fits : n ≤ length c.args.target.now = leb-true _ _ (sym c.in-Some-cut_off.ensures.none) in
    let long : length c.words_from-words.result.now ≤ length c.in-Some-cut_off.rest.now =
    leb-true _ _ (sym c.in-Some-cut_off-2.ensures.none) in
    laid_stretch s c.in-Some.entry at c.args.base c.args.first (1 + c.copy_pieces.result) c.copy_pieces.result
    c.place_behind-place.result n front
    c.args.target.now c.in-Some-cut_off._gap.now c.in-Some-cut_off.rest.now c.in-Some-cut_off-2.here.now
    c.in-Some-cut_off-2.rest.now c.words_from-words.result.now c.fill.new.here c.copy_pieces.new.target z (omega arith)
    (sym c.entry_by.ensures ∙ c.in-Some.is) (omega (arith, c.place_behind-place.ensures))
    (omega (arith, c.if-place-base.false)) refl fits
    c.in-Some-cut_off.ensures.piece c.in-Some-cut_off.ensures.rest long c.in-Some-cut_off-2.ensures.piece
    c.in-Some-cut_off-2.ensures.rest
    (c.words_from-words.ensures ∙ ap (λ k. take k (drop c.in-Some.entry.offset s.words)) c.size_at-size.ensures.value)
    c.fill.ensures (λ before w. c.copy_pieces.ensures.laid before at w)
