use Rattle.std.proofs.Common.{arith}
use Rattle.markbits.proofs.RowWords.{row_length}
use Rattle.markbits.proofs.Ranks.{rank_of_word}
use Rattle.markbits.proofs.word_row.WordRow.rank_word.Goals as goal

pub index-requires : goal.index-requires
index-requires c =
    omega (arith, c.requires.low, c.requires.there, row_length _ _ _ c.self.view_is, c.self.invariant.0.room)

pub overflow_add-result : goal.overflow_add-result
overflow_add-result c =
    let low = (rank_of_word _ _ _ _ c.args.index _ c.args.below c.self.invariant.0 c.self.view_is c.requires.low
    c.requires.there c.requires.below c.index.ensures (omega arith)).0 in
    omega arith

pub returns : goal.returns
returns c = (rank_of_word _ _ _ _ c.args.index _ c.args.below c.self.invariant.0 c.self.view_is c.requires.low
    c.requires.there c.requires.below c.index.ensures (omega arith)).1
