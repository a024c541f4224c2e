use Rattle.std.proofs.Common.{◌+◌, arith, refl, sym, ◌∙◌}
use Rattle.part_scans.proofs.Words.{leads_next}
use Rattle.part_scans.proofs.objects.all_lead_on.Goals as goal

pub loop-number-preserved : goal.loop-number-preserved
loop-number-preserved c =
    leads_next c.args.scene.now c.args.pages.now c.args.index c.args.offset (c.args.offset + c.loop-number.number)
    c.loop-number.number c.in-Some.bits c.loop-number.invariant refl (sym c.word_of.ensures ∙ c.in-Some.is)
    (sym c.bits_lead_on.ensures ∙ c.if-not-bits_lead_on.false)

pub returns : goal.returns
returns c = λ e j l. c.loop-number.invariant j (omega (arith, l, c.loop-number-test.false))
