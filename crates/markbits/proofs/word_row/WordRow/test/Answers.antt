use Rattle.std.proofs.Common.{◌/◌, ◌∙◌, sym, arith, le-ltb}
use Rattle.std.proofs.lemmas.List.{get_or_read}
use Rattle.markbits.proofs.RowWords.{test_is, test_past}
use Rattle.markbits.proofs.word_row.WordRow.test.Goals as goal

pub returns-then-offset-self : goal.returns-then-offset-self
returns-then-offset-self c =
    test_is _ _ _ _ _ _ c.self.invariant.0 c.self.view_is
    (get_or_read c.self.inside.words.items (c.args.offset / 64) _ (omega
    (arith, c.self.invariant.0.room)) c.index.ensures 0)

pub returns-else-offset-self : goal.returns-else-offset-self
returns-else-offset-self c = le-ltb _ _ c.if-offset-self.false
    ∙ sym (test_past _ _ _ _ _ c.self.invariant.0 c.self.view_is c.if-offset-self.false)
