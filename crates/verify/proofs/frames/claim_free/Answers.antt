use Rattle.std.proofs.Common.{ℕ, eqb, get_or, eq-eqb, refl}
use Rattle.verify.proofs.Claiming.{over_claimed}
use Rattle.verify.proofs.frames.claim_free.Goals as goal

pub returns-then-not-claim-clause-claimed : goal.returns-then-not-claim-clause-claimed
returns-then-not-claim-clause-claimed c =
    let f : ℕ = get_or c.args.free.now c.loop-frame.frame-index 0 in
    let l = c.loop-frame in (
      f,
      over_claimed (λ g. eqb g f) c.args.free.now l.frame-index 0 _ f _ _ _ c.loop-frame-test.true (eq-eqb _ _ refl)
          (l.invariant.claimed f) c.if-not-claim.ensures.new l.invariant.len,
    )
