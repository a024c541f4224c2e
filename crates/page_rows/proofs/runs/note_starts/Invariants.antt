use Rattle.std.proofs.Common.{◌≡◌, ◌+◌, ◌-◌}
use Rattle.page_rows.specs.Runs.{started_from}
use Rattle.page_rows.proofs.runs.note_starts.Given as goal

abbrev pub invariant-loop-index : goal.invariant-loop-index
invariant-loop-index l = started_from l.fn.store.words l.fn.side l.fn.first l.fn.count l.fn.starts
    ≡ started_from l.fn.store.words l.fn.side (l.fn.first + l.index) (l.fn.count - l.index) l.starts
