use Rattle.std.proofs.Common.{◌≡◌, ◌+◌, ◌*◌, ◌-◌, ◌≤◌, drop, length}
use Rattle.std.specs.List.{sum_by}
use Rattle.model.specs.Plans.{offsets_from}
use Rattle.choosing.specs.Choices.{size_on}
use Rattle.choosing.proofs.sparse.row_words.Given as goal

abbrev pub invariant-loop-offset : goal.invariant-loop-offset
invariant-loop-offset l =
    (l.total + sum_by (size_on l.fn.heap l.fn.page) (offsets_from l.from (drop l.from l.fn.row))
    ≡ sum_by (size_on l.fn.heap l.fn.page) (offsets_from 0 l.fn.row))
    × (l.total ≤ 131071 * l.from) × (l.from ≤ length l.fn.row)

abbrev pub decreases-loop-offset : goal.decreases-loop-offset
decreases-loop-offset l = length l.fn.row - l.from
