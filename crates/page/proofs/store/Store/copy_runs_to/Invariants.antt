use Rattle.std.proofs.Common.{◌≡◌, drop}
use Rattle.page.specs.Filling.{with_runs}
use Rattle.page.proofs.store.Store.copy_runs_to.Given as goal

abbrev pub invariant-loop-index : goal.invariant-loop-index
invariant-loop-index l = with_runs l.self l.sides l.layouts l.target (drop l.index l.runs)
    ≡ with_runs l.fn.self l.sides l.layouts l.target l.runs
