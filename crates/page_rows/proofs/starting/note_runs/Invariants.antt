use Rattle.std.proofs.Common.{◌≡◌, drop}
use Rattle.page_rows.specs.Starting.{by_runs, run_started}
use Rattle.page_rows.proofs.starting.note_runs.Given as goal

abbrev pub invariant-loop-index : goal.invariant-loop-index
invariant-loop-index l = by_runs (run_started l.store.words l.sides) (drop l.index l.runs) l.starts
    ≡ by_runs (run_started l.fn.store.words l.fn.sides) l.fn.runs l.fn.starts
