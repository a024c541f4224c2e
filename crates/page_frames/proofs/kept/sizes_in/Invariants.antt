use Rattle.std.proofs.Common.{◌≡◌, ◌-◌, ◌++◌, ◌≤◌, map, drop, length}
use Rattle.model.specs.Plans.{offsets_from}
use Rattle.page_frames.specs.Kept.{size_in, sizes_in}
use Rattle.page_frames.proofs.kept.sizes_in.Given as goal

abbrev pub invariant-loop-offset : goal.invariant-loop-offset
invariant-loop-offset l = (l.sizes ++ map (size_in l.fn.layouts l.fn.words) (offsets_from l.from (drop l.from l.fn.live))
    ≡ sizes_in l.fn.layouts l.fn.words l.fn.live) × (length l.sizes ≤ l.from)

abbrev pub decreases-loop-offset : goal.decreases-loop-offset
decreases-loop-offset l = length l.fn.live - l.from
