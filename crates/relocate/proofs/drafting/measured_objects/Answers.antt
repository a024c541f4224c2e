use Rattle.std.proofs.Common.{◌-◌, ◌∙◌, ap, sym}
use Rattle.std.specs.List.{slice_get}
use Rattle.std.specs.Option.{option_copied}
use Rattle.relocate.proofs.Offsets.{live_on, none_live, none_sized, row_live, row_sized}
use Rattle.relocate.proofs.drafting.measured_objects.Goals as goal

pub objects_on-requires-clause-size : goal.objects_on-requires-clause-size
objects_on-requires-clause-size c =
    row_sized c.args.heap.now c.args.page c.requires.low c.in-Some.row.now c.law.ensures.heap
    (ap (λ rows. slice_get rows (c.args.page - 1)) (sym c.live.ensures) ∙ sym c.get.ensures
    ∙ ap option_copied c.in-Some.is)

pub objects_on-requires-clause-row : goal.objects_on-requires-clause-row
objects_on-requires-clause-row c =
    row_live c.args.heap.now c.args.page c.requires.low c.in-Some.row.now
    (ap (λ rows. slice_get rows (c.args.page - 1)) (sym c.live.ensures) ∙ sym c.get.ensures
    ∙ ap option_copied c.in-Some.is)

pub returns-in-None : goal.returns-in-None
returns-in-None c =
    let none = ap (λ rows. slice_get rows (c.args.page - 1)) (sym c.live.ensures) ∙ sym c.get.ensures
    ∙ ap option_copied c.in-None.is in
    live_on c.args.heap.now c.args.page c.empty.result _ _ c.empty.ensures
    (none_live c.args.heap.now c.args.page c.requires.low none)
    (none_sized c.args.heap.now c.args.page c.requires.low none)
