use Rattle.std.proofs.Common.{◌≡◌, length}
use Rattle.std.specs.List.{All}
use Rattle.choosing.specs.Measures.{IsOnPage}
use Rattle.collecting.proofs.measured.keep_objects.Given as goal

abbrev pub invariant-loop-page : goal.invariant-loop-page
invariant-loop-page l = (l.heap ≡ l.fn.heap) × All (IsOnPage l.fn.heap) l.objects.items

abbrev pub decreases-loop-page : goal.decreases-loop-page
decreases-loop-page l = length l.objects.items
