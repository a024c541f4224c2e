use Rattle.std.proofs.Common.{◌≡◌, length}
use Rattle.heap.specs.Owning.{AreBlankPages}
use Rattle.waves.proofs.parting.blank_pages.Given as goal

abbrev pub invariant-loop-page : goal.invariant-loop-page
invariant-loop-page l = AreBlankPages l.pages.items × (length l.pages.items ≡ l._page)
