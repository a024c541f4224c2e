use Rattle.std.proofs.Common.{◌∙◌, ap, sym, length}
use Rattle.std.specs.Prelude.{count_by}
use Rattle.relocate.proofs.Offsets.{live_on, sizes_live, sizes_many}
use Rattle.relocate.proofs.drafting.objects_on.Goals as goal

pub new-requires-clause-many : goal.new-requires-clause-many
new-requires-clause-many c =
    let h = c.args.heap.now in
    let row = c.args.row.now in
    ap length (c.in_ok-sizes.ensures ∙ sizes_live h c.args.page row c.requires.row)
    ∙ sizes_many h c.args.page row c.requires.row ∙ ap (count_by (λ b. b)) (sym c.in_ok-live.ensures)

pub returns : goal.returns
returns c =
    let h = c.args.heap.now in
    let row = c.args.row.now in
    live_on h c.args.page c.in_ok-objects.objects c.in_ok-live.live c.in_ok-sizes.sizes c.in_ok-objects.ensures
    (c.in_ok-live.ensures ∙ c.requires.row) (c.in_ok-sizes.ensures ∙ sizes_live h c.args.page row c.requires.row)
