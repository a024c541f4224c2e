use Rattle.std.proofs.Common.{◌≡◌, ◌-◌, ◌++◌, ◌≤◌, map, drop, length}
use Rattle.model.specs.Plans.{offsets_from}
use Rattle.relocate.specs.Drafts.{draft_size}
use Rattle.relocate.proofs.drafting.sizes_on.Given as goal

abbrev pub invariant-loop-offset : goal.invariant-loop-offset
invariant-loop-offset l = (l.sizes ++ map (draft_size l.fn.heap l.fn.page) (offsets_from l.from (drop l.from l.fn.row))
    ≡ map (draft_size l.fn.heap l.fn.page) (offsets_from 0 l.fn.row)) × (length l.sizes ≤ l.from)

abbrev pub decreases-loop-offset : goal.decreases-loop-offset
decreases-loop-offset l = length l.fn.row - l.from
