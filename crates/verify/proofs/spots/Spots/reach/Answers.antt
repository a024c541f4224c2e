use Rattle.std.proofs.Common.{◌≡◌, ◌≢◌, ◌/◌, sym, ap, subst, arith}
use Rattle.verify.specs.Walks.{spot_at}
use Rattle.verify.specs.declared.spots.Spot.TheVariants.{Empty}
use Rattle.verify.proofs.Spotting.{reach_read, filled_there}
use Rattle.verify.proofs.spots.Spots.reach.Goals as goal

pub returns-then-page-len : goal.returns-then-page-len
returns-then-page-len c =
    let s = c.self.inside in
    reach_read s.words s.count c.from-words.result s.pages.items c.args.self.now c.args.address
    c.index_mut-page.result.now c.reach.new.self c.self.view_is c.from-words.ensures c.requires
    c.index_mut-page.ensures.value c.reach.ensures

pub returns-else-page-len : goal.returns-else-page-len
returns-else-page-len c =
    let s = c.self.inside in
    let here = subst (λ xs. spot_at xs c.args.address ≢ Empty) (sym c.self.view_is) c.requires in
    let there = (filled_there s.words s.count s.pages.items c.args.address here).page in
    let same : c.args.address / c.from-words.result ≡ c.args.address / s.words =
    ap (λ w. c.args.address / w) c.from-words.ensures in
    absurd (omega (arith, there, same, c.if-page-len.false, c.len.ensures))
