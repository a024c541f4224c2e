use Rattle.std.proofs.Common.{◌≡◌, length, replicate, rules}
use Rattle.markbits.proofs.RowBits.{blank_row_is}
use Rattle.markbits.proofs.RowWords.{blank_is, blanked}
use Rattle.markbits.proofs.Lows.{low_blank}
use Rattle.markbits.proofs.word_row.WordRow.clear.Goals as goal

pub invariant_of-self : goal.invariant_of-self
invariant_of-self c =
    let items : c.fill.new.self.items ≡ replicate (length c.self.inside.words.items) 0 = search rules in
    rw items (
      blank_row_is c.self.inside.len
          (length c.self.inside.words.items) c.self.invariant.0.short c.self.invariant.0.room,
      low_blank c.self.inside.len
          (length c.self.inside.words.items) 4294967295 c.self.invariant.0.short c.self.invariant.0.room,
    )

pub returns-then-self-ne0 : goal.returns-then-self-ne0
returns-then-self-ne0 c =
    let items : c.fill.new.self.items ≡ replicate (length c.self.inside.words.items) 0 = search rules in
    rw items (blanked _ _ _ _ c.self.view_is)

pub returns-else-self-ne0 : goal.returns-else-self-ne0
returns-else-self-ne0 c =
    blank_is c.self.inside.len c.self.inside.words.items _ (rw c.if-self-ne0.false at c.self.invariant.0) c.self.view_is
