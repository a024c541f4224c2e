use Rattle.std.proofs.Common.{◌+◌, ◌%◌, ◌^◌, ◌∙◌, ap, arith, length, refl, subst, sym}
use Rattle.std.specs.Option.{IsSome}
use Rattle.std.proofs.lemmas.Option.{same_Some}
use Rattle.refword.specs.Words.{IsAddress}
use Rattle.forward.proofs.Bases.{address_got, addresses_many}
use Rattle.forward.proofs.places.Places.get.Goals as goal

pub index-requires : goal.index-requires
index-requires c = omega (
  arith,
  c.requires,
  addresses_many c.self.inside.base c.self.inside.more.items 0 c.self.inside.distances.items,
  ap length c.self.view_is,
)

pub unwrap-requires : goal.unwrap-requires
unwrap-requires c =
    let got = address_got c.self.inside.base c.self.inside.more.items c.self.inside.distances.items c.args.self.now
    c.args.index c.base_at-base.result c.index.result.now c.self.view_is c.self.invariant.0 c.requires
    c.base_at-base.ensures c.index.ensures in
    subst IsSome (sym (c.new.ensures.within
    (subst (λ d. IsAddress ((c.base_at-base.result + d) % 2 ^ 64)) (sym c.from.ensures) got.1))) refl

pub returns : goal.returns
returns c =
    let got = address_got c.self.inside.base c.self.inside.more.items c.self.inside.distances.items c.args.self.now
    c.args.index c.base_at-base.result c.index.result.now c.self.view_is c.self.invariant.0 c.requires
    c.base_at-base.ensures c.index.ensures in
    let is = c.new.ensures.within
    (subst (λ d. IsAddress ((c.base_at-base.result + d) % 2 ^ 64)) (sym c.from.ensures) got.1) in
    sym (same_Some _ _ (sym is ∙ c.unwrap.ensures))
    ∙ ap (λ d. (c.base_at-base.result + d) % 2 ^ 64) c.from.ensures ∙ got.0
