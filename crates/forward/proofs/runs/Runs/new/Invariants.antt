use Rattle.std.proofs.Common.{◌-◌, ◌≤◌, length}
use Rattle.forward.proofs.Packed.{ArePlaced}
use Rattle.forward.proofs.runs.Runs.new.Given as goal

abbrev pub invariant-loop-number : goal.invariant-loop-number
invariant-loop-number l =
    ArePlaced l.words l.fn.end l.fn.sizes l.number l.first l.last l.more.items l.at × (l.number ≤ length l.fn.sizes)

abbrev pub decreases-loop-number : goal.decreases-loop-number
decreases-loop-number l = l.count - l.number
