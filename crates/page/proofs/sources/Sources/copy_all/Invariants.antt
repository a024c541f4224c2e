use Rattle.std.proofs.Common.{◌≡◌, drop}
use Rattle.page.specs.Filling.{laid_runs}
use Rattle.page.proofs.sources.Sources.copy_all.Given as goal

abbrev pub invariant-loop-index : goal.invariant-loop-index
invariant-loop-index l = laid_runs l.self (drop l.index l.runs) l.target ≡ laid_runs l.fn.self l.fn.runs l.fn.target
