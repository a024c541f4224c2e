use Rattle.markbits.proofs.RowBits.{count_of}
use Rattle.markbits.proofs.word_row.WordRow.count.Goals as goal

pub returns-clause-value : goal.returns-clause-value
returns-clause-value c = count_of c.self.invariant.0.counted c.self.view_is
