use Rattle.std.proofs.Common.{sym, ap, ◌∙◌}
use Rattle.verify.specs.Soundness.{is_frame}
use Rattle.verify.proofs.Claiming.{over_claimed_first, frame_here}
use Rattle.verify.proofs.frames.claim_pages.Goals as goal

pub returns-then-not-claim-clause-claimed : goal.returns-then-not-claim-clause-claimed
returns-then-not-claim-clause-claimed c =
    let f = c.in-Some.frame in
    let l = c.loop-page in
    let here = frame_here _ f (ap (λ p. p.frame) (sym c.page-item.is) ∙ sym c.frame.ensures ∙ c.in-Some.is) in (
      f,
      over_claimed_first (λ p. is_frame f p.frame) c.args.pages.now l.page-index c.page-item.result _ f _ _
          c.loop-page-test.true here (l.invariant.claimed f) c.if-not-claim.ensures.new l.invariant.len,
    )
