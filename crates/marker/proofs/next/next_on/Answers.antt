use Rattle.std.proofs.Common.{◌∙◌, ◌-◌, sym, ap}
use Rattle.std.specs.List.{slice_get}
use Rattle.std.specs.Option.{option_copied}
use Rattle.marker.proofs.Free.{none_on_zero, none_on_missing, next_on_row}
use Rattle.marker.proofs.next.next_on.Goals as goal

pub returns-then-page-eq0 : goal.returns-then-page-eq0
returns-then-page-eq0 c = λ j. none_on_zero c.args.heap.now c.args.page j c.if-page-eq0.true

pub returns-in-None : goal.returns-in-None
returns-in-None c =
    let missing = sym (ap (λ rows. slice_get rows (c.args.page - 1)) c.todo.ensures) ∙ sym c.get.ensures
    ∙ ap option_copied c.in-None.is in
    λ j. none_on_missing c.args.heap.now c.args.page j c.if-page-eq0.false missing

pub returns-in-Some : goal.returns-in-Some
returns-in-Some c =
    let there = sym (ap (λ rows. slice_get rows (c.args.page - 1)) c.todo.ensures) ∙ sym c.get.ensures
    ∙ ap option_copied c.in-Some.is in
    next_on_row c.args.heap.now c.args.page c.in-Some.row.now c.next_free_on.result c.if-page-eq0.false there
    c.next_free_on.ensures
