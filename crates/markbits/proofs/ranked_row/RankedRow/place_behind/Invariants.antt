use Rattle.std.proofs.Common.{◌≡◌, ◌+◌, ◌-◌, length}
use Rattle.markbits.specs.Ranks.{rank_of}
use Rattle.markbits.proofs.ranked_row.RankedRow.place_behind.Given as goal

abbrev pub invariant-loop-place : goal.invariant-loop-place
invariant-loop-place l = rank_of l.self-inside.row l.from + l.left ≡ l.number

abbrev pub decreases-loop-place : goal.decreases-loop-place
decreases-loop-place l = length l.self-inside.row - l.from
