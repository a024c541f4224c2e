use Rattle.std.proofs.Common.{◌≡◌, ◌∙◌, subst}
use Rattle.page_rows.specs.Starting.{NotesStarts, PlacesState}
use Rattle.page_rows.proofs.Starts.{all_noted, back_else}
use Rattle.page_rows.proofs.starting.note_targets.Goals as goal

pub returns-then-are_rising-clause-starts : goal.returns-then-are_rising-clause-starts
returns-then-are_rising-clause-starts g c =
    let s : PlacesState = record { size = c.args.store.now.words; sides = c.args.sides.now } in
    let are : c.new-places.result ≡ s = c.new-places.ensures ∙ (λ j. record {
      size = (c.of.ensures ∙ c.page_words.ensures.value) j;
      sides = c.args.sides.now;
    }) in
    all_noted s c.args.starts.now c.args.targets.now c.note_by.new.starts c.note_by.new.targets
    (c.are_rising.ensures c.if-are_rising.true) c.requires.going
    (subst (λ p. NotesStarts p c.args.starts.now c.args.targets.now c.note_by.new.starts c.note_by.new.targets) are
    c.note_by.ensures)

pub returns-then-are_rising-clause-targets : goal.returns-then-are_rising-clause-targets
returns-then-are_rising-clause-targets g c =
    back_else c.new-places.result c.args.starts.now c.args.targets.now c.note_by.new.starts c.note_by.new.targets
    c.note_by.ensures
