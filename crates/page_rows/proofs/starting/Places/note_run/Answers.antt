use Rattle.std.proofs.Common.{◌∙◌, sym, ap}
use Rattle.page_rows.specs.Starting.{PlacesState, entries_in_row, run_in_row}
use Rattle.page_rows.proofs.Starts.{no_entries}
use Rattle.page_rows.proofs.starting.Places.note_run.Goals as goal

pub returns-in_default : goal.returns-in_default
returns-in_default c =
    no_entries c.self.inside.size c.args.run.first c.args.run.count c.args.row.now
    ∙ ap (λ side. entries_in_row c.self.inside.size side c.args.run.first c.args.run.count c.args.row.now)
    (sym c.in_default.ensures)
    ∙ ap (λ (s : PlacesState). run_in_row s.size s.sides c.args.run c.args.row.now) c.self.view_is
