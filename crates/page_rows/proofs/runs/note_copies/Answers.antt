use Rattle.std.proofs.Common.{◌∙◌}
use Rattle.model.specs.declared.limits.TheConstants.{MOST_WORDS}
use Rattle.page_rows.proofs.Notes.{noted_both}
use Rattle.page_rows.proofs.runs.note_copies.Goals as goal

pub returns : goal.returns
returns c =
    noted_both c.args.store.now.words MOST_WORDS c.args.page c.args.first c.args.count c.args.starts.now
    c.note_starts_of.new.starts c.args.sides.now c.keep.new.self c.note_run.ensures.rising
    c.note_starts_of.ensures (c.keep.ensures ∙ c.note_run.ensures.sides)
