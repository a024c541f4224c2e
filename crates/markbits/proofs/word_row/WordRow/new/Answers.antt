use Rattle.std.proofs.Common.{◌≡◌, replicate, arith, rules}
use Rattle.markbits.proofs.RowBits.{blank_row_is, bits_of_zeros}
use Rattle.markbits.proofs.Lows.{low_blank}
use Rattle.markbits.proofs.word_row.WordRow.new.Goals as goal

pub invariant_of-result : goal.invariant_of-result
invariant_of-result c =
    let items : c.in_ok-vec.field-0.items ≡ replicate c.div_ceil.result 0 = search rules in
    rw items (
      blank_row_is c.args.words c.div_ceil.result (omega (arith, c.ranges.words.fits)) c.div_ceil.ensures,
      low_blank c.args.words c.div_ceil.result 4294967295 (omega (arith, c.ranges.words.fits)) c.div_ceil.ensures,
    )

pub returns : goal.returns
returns c =
    let items : c.in_ok-vec.field-0.items ≡ replicate c.div_ceil.result 0 = search rules in
    rw items (bits_of_zeros c.args.words c.div_ceil.result)
