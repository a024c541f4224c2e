use Rattle.std.proofs.Common.{◌∙◌, arith, w32}
use Rattle.std.proofs.lemmas.Nat.Bits.{bit_at-trailing_zeros}
use Rattle.std.specs.Int.{trailing_zeros}
use Rattle.pieces.proofs.Offsets.{masked}
use Rattle.pieces.proofs.copying.offset_in.Goals as goal

pub returns-then-power-from : goal.returns-then-power-from
returns-then-power-from c =
    let small = (bit_at-trailing_zeros w32 c.args.size c.requires c.ranges.size.fits).0 in
    masked c.args.size c.args.address (trailing_zeros w32 c.args.size) (omega (arith, small))
    (c.if-power-from.true ∙ c.from.ensures)
