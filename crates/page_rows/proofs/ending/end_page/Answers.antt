use Rattle.std.proofs.Common.{◌+◌, ◌∙◌, sym}
use Rattle.model.specs.Cycles.{is_lent}
use Rattle.page.proofs.Ended.{ended_shut}
use Rattle.page_rows.proofs.ending.end_page.Goals as goal

pub returns-else-is_open_at : goal.returns-else-is_open_at
returns-else-is_open_at c = c.end_mark_at-else-is_open_at.ensures
    ∙ ended_shut c.args.store.now c.args.index (is_lent c.args.threads.now (c.args.index + 1))
    (sym c.is_open_at.ensures ∙ c.if-is_open_at.false)
