use Rattle.std.proofs.Common.{◌≡◌, ◌∙◌, Bool, cond, sym, ap, arith}
use Rattle.verify.specs.Walks.{is_unseen, spot_at}
use Rattle.verify.proofs.Spotting.{as_one, unseen_next, unseen_all}
use Rattle.verify.proofs.spots.Spots.unseen.Goals as goal
use Rattle.verify.proofs.spots.Spots.unseen.Goals.{then-is_unseen, else-is_unseen}

pub loop-address-preserved : goal.loop-address-preserved
loop-address-preserved c =
    let next = unseen_next c.args.self.now c.loop-address.from c.in-Some.address c.loop-address.count
    c.in-Some.ensures.next c.loop-address.invariant.count in
    let told : is_unseen (spot_at c.args.self.now c.in-Some.address) ≡ c.is_unseen.result =
    sym (c.is_unseen.ensures ∙ ap is_unseen c.get.ensures) in
    let low = c.in-Some.ensures.next.0 in
    elim c.if-is_unseen.branch [
      | then-is_unseen w ↦ (
          let one : as_one (spot_at c.args.self.now c.in-Some.address) ≡ 1 =
          ap (λ (b : Bool). cond b 1 0) (told ∙ w.if-is_unseen.true) in
          record {
            count = omega (arith, w.count-is, one, next);
            few = omega (arith, w.count-is, low, c.loop-address.invariant.few);
          }
          )
      | else-is_unseen w ↦ (
          let none : as_one (spot_at c.args.self.now c.in-Some.address) ≡ 0 =
          ap (λ (b : Bool). cond b 1 0) (told ∙ w.if-is_unseen.false) in
          record {
            count = omega (arith, w.count-is, none, next);
            few = omega (arith, w.count-is, low, c.loop-address.invariant.few);
          }
          )
    ]

pub returns : goal.returns
returns c = unseen_all c.args.self.now c.loop-address.from c.loop-address.count c.in_default.ensures.next
    c.loop-address.invariant.count
