use Rattle.std.proofs.Common.{◌-◌, ap, sym, ◌∙◌}
use Rattle.std.specs.List.{slice_get}
use Rattle.std.specs.Option.{option_copied}
use Rattle.model.proofs.Tables.{row_short}
use Rattle.choosing.proofs.Sums.{none_live, row_live}
use Rattle.choosing.proofs.sparse.live_words.Goals as goal

pub row_words-requires-clause-size : goal.row_words-requires-clause-size
row_words-requires-clause-size c =
    row_short c.args.heap.now.store c.args.heap.now.live (c.args.page - 1) c.in-Some.row.now c.law.ensures.heap.live
    (ap (λ rows. slice_get rows (c.args.page - 1)) (sym c.live.ensures) ∙ sym c.get.ensures
    ∙ ap option_copied c.in-Some.is)

pub returns-in-None-clause-value : goal.returns-in-None-clause-value
returns-in-None-clause-value c =
    none_live c.args.heap.now c.args.page c.requires.low
    (ap (λ rows. slice_get rows (c.args.page - 1)) (sym c.live.ensures) ∙ sym c.get.ensures
    ∙ ap option_copied c.in-None.is)

pub returns-in-Some-clause-value : goal.returns-in-Some-clause-value
returns-in-Some-clause-value c = c.row_words.ensures.value
    ∙ row_live c.args.heap.now c.args.page c.requires.low c.in-Some.row.now
    (ap (λ rows. slice_get rows (c.args.page - 1)) (sym c.live.ensures) ∙ sym c.get.ensures
    ∙ ap option_copied c.in-Some.is)
