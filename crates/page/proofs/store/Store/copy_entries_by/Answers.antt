use Rattle.page.proofs.Runs.{page_short}
use Rattle.page.proofs.store.Store.copy_entries_by.Goals as goal

pub copy_run_by-requires-clause-room : goal.copy_run_by-requires-clause-room
copy_run_by-requires-clause-room g c κs within =
    page_short c.args.self.now c.args.target _ c.law.ensures c.lend_apart-part.ensures.to
