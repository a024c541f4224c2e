use Rattle.std.proofs.Common.{◌≡◌, drop}
use Rattle.page_rows.specs.Starting.{by_runs, run_in_row}
use Rattle.page_rows.proofs.starting.Places.note_runs.Given as goal

abbrev pub invariant-loop-index : goal.invariant-loop-index
invariant-loop-index l = by_runs (run_in_row l.self.size l.self.sides) (drop l.index l.runs) l.row
    ≡ by_runs (run_in_row l.fn.self.size l.fn.self.sides) l.fn.runs l.fn.row
