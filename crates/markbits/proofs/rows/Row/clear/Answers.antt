use Rattle.std.proofs.Common.{◌∙◌, sym}
use Rattle.markbits.proofs.Cleared.{blank_there}
use Rattle.markbits.proofs.rows.Row.clear.Goals as goal

pub returns-else-count-ne0 : goal.returns-else-count-ne0
returns-else-count-ne0 c = blank_there c.self.inside.len c.self.inside.bits c.self.inside.spare c.args.self.now
    c.self.invariant c.self.view_is (sym c.count.ensures.value ∙ c.if-count-ne0.false)
