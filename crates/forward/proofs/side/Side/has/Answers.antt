use Rattle.std.proofs.Common.{is_some, ◌∙◌, ap}
use Rattle.model.specs.Marks.{entry_of}
use Rattle.forward.proofs.Ranked.{live_of}
use Rattle.forward.proofs.side.Side.has.Goals as goal

pub returns : goal.returns
returns c =
    c.test.ensures
    ∙ live_of c.self.inside.live c.self.inside.places c.self.inside.copied c.self.invariant.0 c.args.offset
    ∙ ap (λ s. is_some (entry_of s c.args.offset)) c.self.view_is
