use Rattle.std.proofs.Common.{arith}
use Rattle.markbits.proofs.RowWords.{row_length}
use Rattle.markbits.proofs.Ranks.{rank_part}
use Rattle.markbits.proofs.word_row.WordRow.rank_within.Goals as goal

pub index-requires : goal.index-requires
index-requires c =
    omega (arith, c.requires.within, row_length _ _ _ c.self.view_is, c.self.invariant.0.room)

pub overflow_add-result : goal.overflow_add-result
overflow_add-result c =
    let low = (rank_part _ _ _ _ c.args.offset _ c.args.below c.self.invariant.0 c.self.view_is c.requires.within
    c.requires.below c.index.ensures).0 in
    omega arith

pub returns : goal.returns
returns c = (rank_part _ _ _ _ c.args.offset _ c.args.below c.self.invariant.0 c.self.view_is c.requires.within
    c.requires.below c.index.ensures).1
