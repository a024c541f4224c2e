use Rattle.cycle.specs.Loads.{finish_load}
use Rattle.cycle.proofs.WholeLoads.{on_ok, step_ok, step_err, healed_due}
use Rattle.script.proofs.check.steps.check_heal.Goals as goal

pub returns-in-Ok-clause-steps : goal.returns-in-Ok-clause-steps
returns-in-Ok-clause-steps c =
    on_ok c.check_finish.result _ _ c.check_finish.ensures.steps (λ p.
    healed_due c.args.due c.args.book.now c.args.actor c.args.replies.now.items _ c.if-due.true
    (step_ok c.args.book.now c.check_step.new.book _ c.in_ok-check_step.field-0 c.in-Ok.field-0
    (λ b answer. finish_load b c.args.actor) c.args.replies.now.items c.check_step.new.replies.items _ c.in-Ok.is
    c.in_ok-check_step.ensures.says c.in_ok-check_step.ensures.replies p))

pub returns-in-Err-clause-steps : goal.returns-in-Err-clause-steps
returns-in-Err-clause-steps c =
    healed_due c.args.due c.args.book.now c.args.actor c.args.replies.now.items _ c.if-due.true
    (step_err c.args.book.now c.check_step.new.book _ c.in_ok-check_step.field-0 c.in-Err.field-0
    (λ b answer. finish_load b c.args.actor) c.args.replies.now.items c.check_step.new.replies.items c.in-Err.is
    c.in_ok-check_step.ensures.says c.in_ok-check_step.ensures.replies)
