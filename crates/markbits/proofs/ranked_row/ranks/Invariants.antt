use Rattle.std.proofs.Common.{◌≡◌, ◌<◌, ◌-◌, ◌*◌, ℕ, length, get_or}
use Rattle.markbits.specs.Ranks.{rank_of}
use Rattle.markbits.proofs.ranked_row.ranks.Given as goal

abbrev pub invariant-loop-index : goal.invariant-loop-index
invariant-loop-index l =
    (length l.before.items ≡ l.index)
    × ((j : ℕ) → j < l.index → get_or l.before.items j 0 ≡ rank_of l.fn.row (64 * j))
    × (0 < l.index → l.last ≡ rank_of l.fn.row (64 * (l.index - 1)))
