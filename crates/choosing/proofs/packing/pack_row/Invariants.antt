use Rattle.std.proofs.Common.{◌≡◌, ◌+◌, ◌-◌, ◌≤◌, drop, length, map}
use Rattle.std.specs.List.{sum_by}
use Rattle.std.specs.Prelude.{IfSome}
use Rattle.model.specs.Plans.{offsets_from}
use Rattle.choosing.specs.Choices.{size_on}
use Rattle.choosing.specs.Packings.{pack}
use Rattle.choosing.proofs.packing.pack_row.Given as goal

abbrev pub invariant-loop-offset : goal.invariant-loop-offset
invariant-loop-offset l =
    (pack l.fn.heap.store.words l.packing (map (size_on l.fn.heap l.fn.page)
    (offsets_from l.from (drop l.from l.fn.row)))
    ≡ pack l.fn.heap.store.words l.fn.before (map (size_on l.fn.heap l.fn.page) (offsets_from 0 l.fn.row)))
    × (l.packing.target ≤ l.fn.before.target + l.from) × (l.from ≤ length l.fn.row)
    × IfSome l.left (λ n. n ≡ sum_by (size_on l.fn.heap l.fn.page) (offsets_from l.from (drop l.from l.fn.row)))

abbrev pub decreases-loop-offset : goal.decreases-loop-offset
decreases-loop-offset l = length l.fn.row - l.from
