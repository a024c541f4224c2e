use Rattle.std.proofs.Common.{◌≡◌, suc, ◌-◌, ◌+◌, ap, sym, ◌∙◌, arith}
use Rattle.cycle.specs.Loads.{behind}
use Rattle.cycle.proofs.WholeLoads.{on_ok, trap_err, trap_ok, when_clear, when_due, trapped_last}
use Rattle.script.proofs.check.steps.check_traps.Goals as goal

pub returns-in-Err-clause-steps : goal.returns-in-Err-clause-steps
returns-in-Err-clause-steps c =
    let left : 3 - c.loop.counter ≡ suc (3 - (c.loop.counter + 1)) = omega (arith, c.loop-test.true) in
    sym c.loop.invariant
    ∙ trap_err _ _ c.loop.due c.loop.book c.check_step.new.book c.args.actor c.in_ok-check_step.field-0 c.in-Err.field-0
    c.loop.replies.items c.check_step.new.replies.items left c.in-Err.is c.in_ok-check_step.ensures.says
    c.in_ok-check_step.ensures.replies

pub returns-then-is_clear-clause-steps : goal.returns-then-is_clear-clause-steps
returns-then-is_clear-clause-steps c =
    let left : 3 - c.loop.counter ≡ suc (3 - (c.loop.counter + 1)) = omega (arith, c.loop-test.true) in
    on_ok c.check_heal.result _ _ c.check_heal.ensures.steps (λ p.
    sym c.loop.invariant
    ∙ trap_ok _ _ c.loop.due c.loop.book c.check_step.new.book c.args.actor c.in_ok-check_step.field-0 c.in-Ok.answer
    c.loop.replies.items c.check_step.new.replies.items _ left c.in-Ok.is c.in_ok-check_step.ensures.says
    c.in_ok-check_step.ensures.replies
    (when_clear _ c.loop.due c.args.actor c.check_step.new.book c.in-Ok.answer c.is_clear.result c.is_clear.ensures
    c.if-is_clear.true)
    ∙ p)

pub loop-preserved : goal.loop-preserved
loop-preserved c =
    let left : 3 - c.loop.counter ≡ suc (3 - (c.loop.counter + 1)) = omega (arith, c.loop-test.true) in
    sym (trap_ok _ _ c.loop.due c.loop.book c.check_step.new.book c.args.actor c.in_ok-check_step.field-0 c.in-Ok.answer
    c.loop.replies.items c.check_step.new.replies.items _ left c.in-Ok.is c.in_ok-check_step.ensures.says
    c.in_ok-check_step.ensures.replies
    (when_due _ c.loop.due c.args.actor c.check_step.new.book c.in-Ok.answer c.is_clear.result c.is_clear.ensures
    c.if-is_clear.false))
    ∙ c.loop.invariant

pub returns-clause-steps : goal.returns-clause-steps
returns-clause-steps c =
    let none : 3 - c.loop.counter ≡ 0 = omega (arith, c.loop-test.false) in
    on_ok c.check_heal-2.result _ _ c.check_heal-2.ensures.steps (λ p.
    sym c.loop.invariant ∙ ap (behind c.loop.replies.items) (trapped_last _ c.loop.due c.loop.book c.args.actor none)
    ∙ p)
