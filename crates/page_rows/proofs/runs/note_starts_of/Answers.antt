use Rattle.std.proofs.Common.{◌∙◌, sym, ap}
use Rattle.page_rows.specs.Runs.{started_from}
use Rattle.page_rows.proofs.Notes.{none_start}
use Rattle.page_rows.proofs.runs.note_starts_of.Goals as goal

pub returns-in_default : goal.returns-in_default
returns-in_default c =
    none_start c.args.store.now.words c.args.first c.args.count c.args.starts.now
    ∙ ap (λ side. started_from c.args.store.now.words side c.args.first c.args.count c.args.starts.now)
    (sym c.in_default.ensures)
