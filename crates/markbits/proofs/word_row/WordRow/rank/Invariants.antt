use Rattle.std.proofs.Common.{◌≡◌, ◌*◌}
use Rattle.markbits.specs.Words.{bits_of, set_count}
use Rattle.markbits.proofs.word_row.WordRow.rank.Given as goal

abbrev pub invariant-loop-index : goal.invariant-loop-index
invariant-loop-index l = l.below ≡ set_count (bits_of (64 * l.index) l.self-inside.words.items)
