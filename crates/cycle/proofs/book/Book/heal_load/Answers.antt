use Rattle.cycle.specs.Loads.{finish_load, heal_load}
use Rattle.cycle.proofs.Begun.{heal_goes, none_begun, heal_begun, at_err, on_err}
use Rattle.cycle.proofs.WholeLoads.{on_ok, step_ok, step_err, healed_due}
use Rattle.cycle.proofs.book.Book.heal_load.Goals as goal

pub returns-in-Ok-clause-steps : goal.returns-in-Ok-clause-steps
returns-in-Ok-clause-steps c =
    on_ok c.finish_load.result _ _ c.finish_load.ensures.steps (λ p.
    healed_due c.args.due c.args.self.now c.args.actor c.args.replies.now.items _ c.if-due.true
    (step_ok c.args.self.now c.act_into.new.self _ c.in_ok-act_into.field-0 c.in-Ok.field-0
    (λ b answer. finish_load b c.args.actor) c.args.replies.now.items c.act_into.new.replies.items _ c.in-Ok.is
    c.in_ok-act_into.ensures.says c.in_ok-act_into.ensures.replies p))

pub returns-in-Err-clause-steps : goal.returns-in-Err-clause-steps
returns-in-Err-clause-steps c =
    healed_due c.args.due c.args.self.now c.args.actor c.args.replies.now.items _ c.if-due.true
    (step_err c.args.self.now c.act_into.new.self _ c.in_ok-act_into.field-0 c.in-Err.refusal
    (λ b answer. finish_load b c.args.actor) c.args.replies.now.items c.act_into.new.replies.items c.in-Err.is
    c.in_ok-act_into.ensures.says c.in_ok-act_into.ensures.replies)

pub returns-in_err-act_into-clause-memory : goal.returns-in_err-act_into-clause-memory
returns-in_err-act_into-clause-memory c =
    at_err c.from_residual.result _ (none_begun (heal_load c.args.due c.args.self.now c.args.actor).book c.args.self.now
    c.args.replies.now.items c.act_into.new.self c.act_into.new.replies.items
    (heal_goes c.args.due c.args.self.now c.args.actor) c.in_err-act_into.ensures.same_book
    c.in_err-act_into.ensures.same_replies)

pub returns-in-Ok-clause-memory : goal.returns-in-Ok-clause-memory
returns-in-Ok-clause-memory c =
    on_err c.finish_load.result _ _ c.finish_load.ensures.memory (λ h.
    heal_begun c.args.due c.args.self.now c.act_into.new.self c.args.actor c.in_ok-act_into.field-0 c.in-Ok.field-0
    c.args.replies.now.items c.act_into.new.replies.items _ _ c.if-due.true c.in-Ok.is c.in_ok-act_into.ensures.says
    c.in_ok-act_into.ensures.replies h)
