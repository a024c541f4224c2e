use Rattle.std.proofs.Common.{drop}
use Rattle.page.specs.Filling.{AreOutside}
use Rattle.page.proofs.store.Store.are_outside.Given as goal

abbrev pub invariant-loop-index : goal.invariant-loop-index
invariant-loop-index l = AreOutside l.self.pages l.last (drop l.index l.targets) → AreOutside l.self.pages 0 l.targets
