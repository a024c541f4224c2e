use Rattle.std.proofs.Common.{◌≡◌, [], refl, arith, rules}
use Rattle.markbits.proofs.RowBits.{blank_row_is}
use Rattle.markbits.proofs.Lows.{low_blank}
use Rattle.markbits.proofs.word_row.WordRow.empty.Goals as goal

pub invariant_of-result : goal.invariant_of-result
invariant_of-result c =
    let items : c.new.result.items ≡ [] = search rules in
    rw items (blank_row_is 0 0 (omega arith) refl, low_blank 0 0 4294967295 (omega arith) refl)
