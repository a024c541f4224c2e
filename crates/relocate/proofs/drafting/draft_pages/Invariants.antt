use Rattle.std.proofs.Common.{◌≡◌}
use Rattle.relocate.proofs.Planning.{AreMade}
use Rattle.relocate.proofs.drafting.draft_pages.Given as goal

abbrev pub invariant-loop-index : goal.invariant-loop-index
invariant-loop-index l =
    (l.heap ≡ l.fn.heap) × AreMade l.fn.heap l.fn.pages l.index l.drafts.items l.end l.objects l.targets
