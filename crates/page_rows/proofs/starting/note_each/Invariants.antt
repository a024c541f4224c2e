use Rattle.std.proofs.Common.{◌≡◌, drop}
use Rattle.page.specs.Filling.{runs_of}
use Rattle.page_rows.specs.Starting.{by_runs, run_started}
use Rattle.page_rows.proofs.starting.note_each.Given as goal

abbrev pub invariant-loop-index : goal.invariant-loop-index
invariant-loop-index l = by_runs (run_started l.store.words l.sides) (runs_of (drop l.index l.targets)) l.starts
    ≡ by_runs (run_started l.fn.store.words l.fn.sides) (runs_of l.fn.targets) l.fn.starts
