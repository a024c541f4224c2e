use Rattle.std.proofs.Common.{◌≡◌, ℕ, ◌<◌, true, Some}
use Rattle.std.specs.List.{slice_get}
use Rattle.page.specs.Filling.{is_from_in}
use Rattle.page.specs.declared.targets.PageRun.{PageRun}
use Rattle.page.proofs.store.Store.are_from.Given as goal

abbrev pub invariant-loop-index : goal.invariant-loop-index
invariant-loop-index l = (i : ℕ) (r : PageRun) → i < l.index → slice_get l.runs i ≡ Some r
    → is_from_in l.self.pages r.page ≡ true
