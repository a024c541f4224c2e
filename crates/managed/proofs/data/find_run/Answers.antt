use Rattle.std.proofs.Common.{◌∙◌, sym, arith}
use Rattle.managed.proofs.ManyData.{gate_refuses, layout_refuses, register_refuses, size_refuses}
use Rattle.managed.proofs.OnePage.{layout_few}
use Rattle.managed.proofs.data.find_run.Goals as goal

pub returns-in-Err-clause-run : goal.returns-in-Err-clause-run
returns-in-Err-clause-run c = gate_refuses c.args.heap.now c.args.thread c.args.object c.args.first c.args.count c.requires
    c.in-Err.refusal (sym c.thread_gate.ensures ∙ c.in-Err.is)

pub returns-in-Err-usable-clause-run : goal.returns-in-Err-usable-clause-run
returns-in-Err-usable-clause-run c = register_refuses c.args.heap.now c.args.thread c.args.object c.args.first c.args.count
    c.requires (sym c.thread_gate.ensures ∙ c.in_default.is) c.in-Err-usable.refusal
    (sym c.usable.ensures ∙ c.in-Err-usable.is)

pub returns-in_default-layout_at-clause-run : goal.returns-in_default-layout_at-clause-run
returns-in_default-layout_at-clause-run c = layout_refuses c.args.heap.now c.args.thread c.args.object c.args.first c.args.count
    c.requires (sym c.thread_gate.ensures ∙ c.in_default.is) c.in-Ok.address (sym c.usable.ensures ∙ c.in-Ok.is)
    (sym c.layout_at.ensures ∙ c.in_default-layout_at.is)

pub returns-then-count-saturating_sub-clause-run : goal.returns-then-count-saturating_sub-clause-run
returns-then-count-saturating_sub-clause-run c = size_refuses c.args.heap.now c.args.thread c.args.object c.args.first c.args.count
    c.requires (sym c.thread_gate.ensures ∙ c.in_default.is) c.in-Ok.address c.in-Some.layout
    (sym c.usable.ensures ∙ c.in-Ok.is) (sym c.layout_at.ensures ∙ c.in-Some.is) (omega arith)

pub returns-clause-few : goal.returns-clause-few
returns-clause-few c =
    let few = layout_few c.args.heap.now c.in-Ok.address c.in-Some.layout c.law.ensures.heap
    (sym c.layout_at.ensures ∙ c.in-Some.is) in
    omega arith
