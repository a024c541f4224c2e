use Rattle.std.proofs.Common.{drop}
use Rattle.page_rows.specs.Starting.{AreRisingFrom}
use Rattle.page_rows.proofs.starting.are_rising.Given as goal

abbrev pub invariant-loop-index : goal.invariant-loop-index
invariant-loop-index l = AreRisingFrom l.last (drop l.index l.targets) → AreRisingFrom 0 l.targets
