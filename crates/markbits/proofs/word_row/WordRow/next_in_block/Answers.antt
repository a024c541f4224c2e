use Rattle.std.proofs.Common.{arith}
use Rattle.markbits.proofs.Blocks.{no_word, no_rest, first_of_rest}
use Rattle.markbits.proofs.word_row.WordRow.next_in_block.Goals as goal

pub returns-then-index-len : goal.returns-then-index-len
returns-then-index-len c =
    no_word _ _ _ _ c.args.offset c.self.invariant.0 c.self.view_is (omega (arith, c.len.ensures, c.if-index-len.true))

pub returns-then-word-eq0 : goal.returns-then-word-eq0
returns-then-word-eq0 c =
    no_rest _ _ _ _ c.args.offset c.self.invariant.0 c.self.view_is _ c.index.ensures
    (omega (arith, c.len.ensures, c.if-index-len.false)) c.if-word-eq0.true

pub returns : goal.returns
returns c =
    (first_of_rest _ _ _ _ c.args.offset c.self.invariant.0 c.self.view_is _ c.index.ensures
    (omega (arith, c.len.ensures, c.if-index-len.false)) (omega (arith, c.if-word-eq0.false))).1
