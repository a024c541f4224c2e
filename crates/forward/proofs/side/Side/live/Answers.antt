use Rattle.std.proofs.Common.{◌∙◌, ap, false}
use Rattle.std.specs.Prelude.{is_some, slice_index_or}
use Rattle.model.specs.Marks.{entry_of}
use Rattle.forward.proofs.Ranked.{live_of}
use Rattle.forward.proofs.side.Side.live.Goals as goal

pub returns : goal.returns
returns c o = ap (λ row. slice_index_or row o false) c.row.ensures
    ∙ live_of c.self.inside.live c.self.inside.places c.self.inside.copied c.self.invariant.0 o
    ∙ ap (λ s. is_some (entry_of s o)) c.self.view_is
