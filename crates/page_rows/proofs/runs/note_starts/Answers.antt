use Rattle.std.proofs.Common.{◌+◌, ◌-◌, ◌∙◌, sym, ap, arith}
use Rattle.page_rows.specs.Runs.{started_from}
use Rattle.page_rows.proofs.Notes.{started_more}
use Rattle.page_rows.proofs.runs.note_starts.Goals as goal

pub loop-index-preserved : goal.loop-index-preserved
loop-index-preserved c =
    let words = c.args.store.now.words in
    let i = c.loop-index.index in
    c.loop-index.invariant
    ∙ started_more words (c.args.first + i) (c.args.first + (i + 1)) (c.args.count - i) (c.args.count - (i + 1))
    c.args.side.now c.loop-index.starts (omega (arith, c.loop-index-test.true)) (omega arith)
    ∙ ap (started_from words c.args.side.now (c.args.first + (i + 1)) (c.args.count - (i + 1)))
    (sym c.note_start.ensures)
