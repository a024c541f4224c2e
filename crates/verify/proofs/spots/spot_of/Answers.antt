use Rattle.std.proofs.Common.{◌∙◌, ◌%◌, false, get_or, sym, ap}
use Rattle.verify.specs.Images.{starts_on}
use Rattle.verify.specs.Walks.{first_spot}
use Rattle.verify.proofs.Starting.{no_start}
use Rattle.verify.proofs.spots.spot_of.Goals as goal

pub returns-else-may_start : goal.returns-else-may_start
returns-else-may_start c =
    let i = c.args.image.now in
    sym (ap first_spot (no_start i c.args.address (
    ap (λ p. starts_on p (c.args.address % i.words)) c.requires.page
    ∙ ap (λ o. get_or c.args.page.now.starts o false) c.requires.offset
    ∙ sym c.may_start.ensures ∙ c.if-may_start.false)))
