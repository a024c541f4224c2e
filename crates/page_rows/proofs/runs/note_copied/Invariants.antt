use Rattle.std.proofs.Common.{◌≡◌, drop}
use Rattle.page_rows.specs.Starting.{by_runs, run_noted}
use Rattle.page_rows.proofs.runs.note_copied.Given as goal

abbrev pub invariant-loop-index : goal.invariant-loop-index
invariant-loop-index l = by_runs run_noted (drop l.index l.runs) l.sides ≡ by_runs run_noted l.fn.runs l.fn.sides
