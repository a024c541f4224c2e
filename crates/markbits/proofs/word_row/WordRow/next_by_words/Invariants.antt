use Rattle.std.proofs.Common.{◌*◌, ◌≤◌}
use Rattle.markbits.proofs.RowWords.{ClearFrom}
use Rattle.markbits.proofs.word_row.WordRow.next_by_words.Given as goal

abbrev pub invariant-loop-index : goal.invariant-loop-index
invariant-loop-index l = ClearFrom l.self-inside.words.items (64 * l.first) (64 * l.index) × (l.first ≤ l.index)
