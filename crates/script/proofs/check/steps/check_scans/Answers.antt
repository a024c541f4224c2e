use Rattle.std.proofs.Common.{◌≡◌, suc, ◌-◌, ◌+◌, ap, sym, ◌∙◌, arith}
use Rattle.model.specs.States.{HeapState}
use Rattle.model.specs.Scans.{next_drain}
use Rattle.cycle.proofs.WholeDrains.{left_none, left_end, left_more, left_err}
use Rattle.script.proofs.check.steps.check_scans.Goals as goal

pub returns-in_default-clause-steps : goal.returns-in_default-clause-steps
returns-in_default-clause-steps c =
    let left : c.args.most - c.loop.counter ≡ suc (c.args.most - (c.loop.counter + 1)) =
    omega (arith, c.loop-test.true) in
    (left_end _ _ _ c.loop.book c.args.worker _ _ c.loop.invariant left
    (ap (λ (h : HeapState). next_drain h c.args.worker) (sym c.heap.ensures) ∙ sym c.next_drain.ensures
    ∙ c.in_default.is)).steps

pub returns-in-Err-clause-steps : goal.returns-in-Err-clause-steps
returns-in-Err-clause-steps c =
    let left : c.args.most - c.loop.counter ≡ suc (c.args.most - (c.loop.counter + 1)) =
    omega (arith, c.loop-test.true) in
    (left_err _ _ _ c.loop.book c.args.worker _ _ c.loop.invariant left c.check_step.new.book c.in-Some.step
    c.in_ok-check_step.field-0 c.in-Err.field-0 c.check_step.new.replies.items
    (ap (λ (h : HeapState). next_drain h c.args.worker) (sym c.heap.ensures) ∙ sym c.next_drain.ensures
    ∙ c.in-Some.is) c.in-Err.is c.in_ok-check_step.ensures.says c.in_ok-check_step.ensures.replies).steps

pub loop-preserved : goal.loop-preserved
loop-preserved c =
    let left : c.args.most - c.loop.counter ≡ suc (c.args.most - (c.loop.counter + 1)) =
    omega (arith, c.loop-test.true) in
    left_more _ _ _ c.loop.book c.args.worker _ _ c.loop.invariant left c.check_step.new.book c.in-Some.step
    c.in_ok-check_step.field-0 c.in_default-2.field-0 c.check_step.new.replies.items
    (ap (λ (h : HeapState). next_drain h c.args.worker) (sym c.heap.ensures) ∙ sym c.next_drain.ensures
    ∙ c.in-Some.is) c.in_default-2.is c.in_ok-check_step.ensures.says c.in_ok-check_step.ensures.replies

pub returns-clause-steps : goal.returns-clause-steps
returns-clause-steps c =
    let none : c.args.most - c.loop.counter ≡ 0 = omega (arith, c.loop-test.false) in
    (left_none _ _ c.loop.book c.args.worker _ _ c.loop.invariant none).steps
