use Rattle.page.proofs.Masks.{masked}
use Rattle.page.proofs.size.PageSize.offset_of.Goals as goal

pub returns : goal.returns
returns c = masked c.args.address c.self.inside.shift _ _ c.self.invariant.mask c.self.view_is
