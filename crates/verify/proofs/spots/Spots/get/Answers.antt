use Rattle.std.proofs.Common.{◌∙◌, ◌/◌, ◌%◌, [], get_or, sym, ap, arith}
use Rattle.verify.specs.Walks.{spot_at}
use Rattle.verify.proofs.Spotting.{spot_past, spot_read}
use Rattle.verify.proofs.spots.Spots.get.Goals as goal

pub returns-then-address-self : goal.returns-then-address-self
returns-then-address-self c =
    sym (spot_past c.self.inside.words c.self.inside.count c.self.inside.pages.items c.args.address
    (omega (arith, c.if-address-self.true)))
    ∙ ap (λ s. spot_at s c.args.address) c.self.view_is

pub returns : goal.returns
returns c =
    let s = c.self.inside in
    c.spot_in.ensures
    ∙ ap (λ ps. spot_at (get_or ps (c.args.address / c.from-words.result) []) (c.args.address % c.from-words.result))
    c.deref.ensures.value
    ∙ ap (λ w. spot_at (get_or s.pages.items (c.args.address / w) []) (c.args.address % w)) c.from-words.ensures
    ∙ sym (spot_read s.words s.count s.pages.items c.args.address (omega (arith, c.if-address-self.false)))
    ∙ ap (λ xs. spot_at xs c.args.address) c.self.view_is
