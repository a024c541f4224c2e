use Rattle.std.proofs.Common.{◌∙◌, ap, is_some}
use Rattle.model.proofs.Lists.{get_within}
use Rattle.forward.proofs.side.Side.numbered.Goals as goal

pub unwrap-requires : goal.unwrap-requires
unwrap-requires c = ap is_some (c.entry.ensures ∙ (get_within c.args.self.now c.args.index c.requires).1)
