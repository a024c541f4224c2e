use Rattle.std.proofs.Common.{◌≡◌, drop}
use Rattle.page.specs.Filling.{runs_of}
use Rattle.page_rows.specs.Starting.{by_runs, run_noted}
use Rattle.page_rows.proofs.runs.note_all_copied.Given as goal

abbrev pub invariant-loop-index : goal.invariant-loop-index
invariant-loop-index l = by_runs run_noted (runs_of (drop l.index l.targets)) l.sides
    ≡ by_runs run_noted (runs_of l.fn.targets) l.fn.sides
