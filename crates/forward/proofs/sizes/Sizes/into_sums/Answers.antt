use Rattle.std.proofs.Common.{◌∙◌, ap}
use Rattle.forward.specs.Sizes.{sums_of}
use Rattle.forward.proofs.Summed.{sums_kept}
use Rattle.forward.proofs.sizes.Sizes.into_sums.Goals as goal

pub returns : goal.returns
returns c = sums_kept c.self.inside.before.items c.self.inside.total 0 c.self.invariant.sums c.self.invariant.first
    ∙ ap (sums_of 0) c.self.view_is
