use Rattle.std.proofs.Common.{◌≡◌, ◌<◌, ◌-◌, ℕ, length, false}
use Rattle.marker.specs.Free.{is_free_on}
use Rattle.marker.proofs.next.next_free_on.Given as goal

abbrev pub invariant-loop-place : goal.invariant-loop-place
invariant-loop-place l = (j : ℕ) → j < l.from → is_free_on l.fn.heap l.fn.row l.fn.page j ≡ false

abbrev pub decreases-loop-place : goal.decreases-loop-place
decreases-loop-place l = length l.fn.row - l.from
