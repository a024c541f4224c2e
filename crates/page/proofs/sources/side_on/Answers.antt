use Rattle.std.proofs.Common.{arith}
use Rattle.std.specs.Option.{option_copied}
use Rattle.page.proofs.Filled.{side_of}
use Rattle.page.proofs.sources.side_on.Goals as goal

pub returns : goal.returns
returns c = side_of c.args.sides.now c.args.page (option_copied c.get.result)
    (λ e. absurd (grind (arith, c.if-page-eq0.false, e))) c.get.ensures
