use Rattle.std.proofs.Common.{◌∙◌, ap, sym, length}
use Rattle.forward.proofs.Packed.{places_many}
use Rattle.forward.proofs.runs.Runs.len.Goals as goal

pub returns-clause-value : goal.returns-clause-value
returns-clause-value c = c.len.ensures.value
    ∙ sym (places_many c.self.inside.first c.self.inside.more.items 0 0 c.self.inside.sizes) ∙ ap length c.self.view_is
