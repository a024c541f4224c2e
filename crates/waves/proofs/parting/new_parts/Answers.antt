use Rattle.std.proofs.Common.{◌+◌, ap, arith, subst, sym}
use Rattle.waves.specs.Parts.{AreJoined, AreNew}
use Rattle.waves.proofs.Building.{joined_more, new_more}
use Rattle.waves.proofs.parting.new_parts.Goals as goal

pub loop-part-preserved : goal.loop-part-preserved
loop-part-preserved c = (
  omega (arith, c.min-pages.ensures, c.loop-part.invariant.0),
  subst (AreNew (c.loop-part.first + c.min-pages.result)) (sym c.in_ok-push.ensures.items)
      (new_more c.loop-part.first (c.loop-part.first + c.min-pages.result) c.loop-part.parts.items
      c.in_ok-blank_part.field-0 c.loop-part.invariant.1 c.in_ok-blank_part.ensures.first
      c.in_ok-blank_part.ensures.blank
      (ap (λ n. c.loop-part.first + n) (sym c.in_ok-blank_part.ensures.count)) c.in_ok-blank_part.ensures.sent),
  subst (AreJoined (c.loop-part.first + c.min-pages.result) 0) (sym c.in_ok-push.ensures.items)
      (joined_more 0 c.loop-part.first (c.loop-part.first + c.min-pages.result) c.loop-part.parts.items
      c.in_ok-blank_part.field-0 c.loop-part.invariant.2 c.in_ok-blank_part.ensures.first
      (ap (λ n. c.loop-part.first + n) (sym c.in_ok-blank_part.ensures.count))),
)

pub returns-clause-new : goal.returns-clause-new
returns-clause-new c = subst (AreNew c.args.used) (sym c.in_ok-push-2.ensures.items)
    (new_more c.loop-part.first c.args.used c.loop-part.parts.items c.in_ok-blank_part-2.field-0
    c.loop-part.invariant.1 c.in_ok-blank_part-2.ensures.first c.in_ok-blank_part-2.ensures.blank
    (omega (arith, c.in_ok-blank_part-2.ensures.count, c.loop-part.invariant.0)) c.in_ok-blank_part-2.ensures.sent)

pub returns-clause-joined : goal.returns-clause-joined
returns-clause-joined c = subst (AreJoined c.args.used 0) (sym c.in_ok-push-2.ensures.items)
    (joined_more 0 c.loop-part.first c.args.used c.loop-part.parts.items c.in_ok-blank_part-2.field-0
    c.loop-part.invariant.2 c.in_ok-blank_part-2.ensures.first
    (omega (arith, c.in_ok-blank_part-2.ensures.count, c.loop-part.invariant.0)))
