use Rattle.std.proofs.Common.{sym, ap, ◌∙◌}
use Rattle.verify.specs.Soundness.{root_value}
use Rattle.verify.proofs.Passing.{root_visit}
use Rattle.verify.proofs.walk.Walk.pass.Goals as goal

pub visit-requires : goal.visit-requires
visit-requires c =
    let r = ap (λ i. root_value i c.args.root) (sym c.image.ensures) ∙ sym c.root.ensures ∙ c.in-Some.is in
    let l = sym c.leads.ensures ∙ c.in-Some-Some.is in
    let v = root_visit c.args.chart.now c.args.self.now c.args.root c.in-Some.value _ c.in-Some-Some.field-0
    c.requires.sized c.requires.walk r l c.in-Some-Some.field-0-is in
    v.filled

pub returns-in-Some-Some-clause-walk : goal.returns-in-Some-Some-clause-walk
returns-in-Some-Some-clause-walk c =
    let r = ap (λ i. root_value i c.args.root) (sym c.image.ensures) ∙ sym c.root.ensures ∙ c.in-Some.is in
    let l = sym c.leads.ensures ∙ c.in-Some-Some.is in
    let v = root_visit c.args.chart.now c.args.self.now c.args.root c.in-Some.value _ c.in-Some-Some.field-0
    c.requires.sized c.requires.walk r l c.in-Some-Some.field-0-is in
    rw c.visit.ensures v.walk

pub returns-in-Some-Some-clause-kept : goal.returns-in-Some-Some-clause-kept
returns-in-Some-Some-clause-kept c =
    let r = ap (λ i. root_value i c.args.root) (sym c.image.ensures) ∙ sym c.root.ensures ∙ c.in-Some.is in
    let l = sym c.leads.ensures ∙ c.in-Some-Some.is in
    let v = root_visit c.args.chart.now c.args.self.now c.args.root c.in-Some.value _ c.in-Some-Some.field-0
    c.requires.sized c.requires.walk r l c.in-Some-Some.field-0-is in
    rw c.visit.ensures v.kept

pub returns-in-Some-Some-clause-passed : goal.returns-in-Some-Some-clause-passed
returns-in-Some-Some-clause-passed c =
    let r = ap (λ i. root_value i c.args.root) (sym c.image.ensures) ∙ sym c.root.ensures ∙ c.in-Some.is in
    let l = sym c.leads.ensures ∙ c.in-Some-Some.is in
    let v = root_visit c.args.chart.now c.args.self.now c.args.root c.in-Some.value _ c.in-Some-Some.field-0
    c.requires.sized c.requires.walk r l c.in-Some-Some.field-0-is in
    rw c.visit.ensures v.passed
