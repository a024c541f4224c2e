use Rattle.std.proofs.Common.{◌≡◌, ◌+◌, ◌-◌}
use Rattle.page_rows.specs.Starting.{entries_in_row}
use Rattle.page_rows.proofs.starting.Places.note_entries.Given as goal

abbrev pub invariant-loop-index : goal.invariant-loop-index
invariant-loop-index l = entries_in_row l.self.size l.fn.side l.fn.first l.fn.count l.fn.row
    ≡ entries_in_row l.self.size l.fn.side (l.fn.first + l.index) (l.fn.count - l.index) l.row
