use Rattle.std.proofs.Common.{◌+◌, ◌-◌, ◌∙◌, sym, ap, arith}
use Rattle.page_rows.specs.Starting.{entries_in_row}
use Rattle.page_rows.proofs.Starts.{entries_more}
use Rattle.page_rows.proofs.starting.Places.note_entries.Goals as goal

pub loop-index-preserved : goal.loop-index-preserved
loop-index-preserved c =
    let words = c.args.self.now.size in
    let i = c.loop-index.index in
    c.loop-index.invariant
    ∙ entries_more words (c.args.first + i) (c.args.first + (i + 1)) (c.args.count - i) (c.args.count - (i + 1))
    c.args.side.now c.loop-index.row (omega (arith, c.loop-index-test.true)) (omega arith)
    ∙ ap (entries_in_row words c.args.side.now (c.args.first + (i + 1)) (c.args.count - (i + 1)))
    (sym c.note_entry.ensures)
