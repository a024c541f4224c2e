use Rattle.std.proofs.Common.{◌∙◌, ap}
use Rattle.std.specs.List.{slice_get}
use Rattle.model.specs.declared.config.Config.{Config}
use Rattle.fast_paths.proofs.AtOnce.{layout_named}
use Rattle.fast_paths.proofs.words.layout_on.Goals as goal

pub returns : goal.returns
returns c =
    let h = c.args.heap.now in
    layout_named h c.args.spot.now.address c.in_ok-header.header c.get.result c.in_ok-header.ensures
    (c.get.ensures ∙ ap (λ (x : Config). slice_get x.layouts c.layout_of.result) c.config.ensures
    ∙ ap (slice_get h.config.layouts) c.layout_of.ensures)
