use Rattle.std.proofs.Common.{◌∙◌, ◌+◌, sym, ap}
use Rattle.std.specs.Option.{option_copied}
use Rattle.verify.specs.Images.{PageData}
use Rattle.verify.specs.Walks.{spot_at, first_spot}
use Rattle.verify.proofs.Starting.{page_stays, no_page, no_frame}
use Rattle.verify.proofs.spots.page_spots.Goals as goal

pub returns-in_default-clause-each : goal.returns-in_default-clause-each
returns-in_default-clause-each c = λ o l.
    let i = c.args.image.now in
    ap (λ p. spot_at p o) c.unfilled.ensures ∙ sym (ap first_spot (no_page i (c.args.base + o)
    ((page_stays i c.args.base o c.requires.base l).0 ∙ sym c.page_at.ensures ∙ ap option_copied c.in_default.is)))

pub returns-in-None-clause-each : goal.returns-in-None-clause-each
returns-in-None-clause-each c = λ o l.
    let i = c.args.image.now in
    ap (λ p. spot_at p o) c.unfilled-in-None.ensures ∙ sym (ap first_spot (no_frame i (c.args.base + o) _
    ((page_stays i c.args.base o c.requires.base l).0 ∙ sym c.page_at.ensures ∙ ap option_copied c.in-Some.is)
    (ap (λ (p : PageData). p.frame) (sym c.page.view_is) ∙ c.in-None.is)))
