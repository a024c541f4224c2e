use Rattle.std.proofs.Common.{Option, ℕ, subst}
use Rattle.verify.specs.Twins.{IsLeast, HasTwins}
use Rattle.verify.proofs.Verdicts.{found_roots, found_fields, twins_verdict, sound_verdict}
use Rattle.verify.proofs.verifier.verify_chart.Goals as goal

pub returns-in-None : goal.returns-in-None
returns-in-None c =
    let i = c.args.chart.now in
    sound_verdict i
    c.requires.frames
    (found_roots i _ _ c.find_reached.ensures c.in-Ok.is)
    (found_fields i _ c.first_bad_field.ensures c.in_default.is)
    (subst (λ (o : Option ℕ). IsLeast (HasTwins i) o) c.in-None.is c.in_ok-least_twins.ensures)

pub returns : goal.returns
returns c =
    let i = c.args.chart.now in
    twins_verdict i _
    c.requires.frames
    (found_roots i _ _ c.find_reached.ensures c.in-Ok.is)
    (found_fields i _ c.first_bad_field.ensures c.in_default.is)
    (subst (λ (o : Option ℕ). IsLeast (HasTwins i) o) c.in-Some-2.is c.in_ok-least_twins.ensures)
