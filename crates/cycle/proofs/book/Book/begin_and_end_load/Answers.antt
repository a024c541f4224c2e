use Rattle.std.proofs.Common.{false}
use Rattle.cycle.specs.Loads.{trap_load, whole_load}
use Rattle.cycle.proofs.Begun.{whole_goes, none_begun, then_begun, at_err, on_err}
use Rattle.cycle.proofs.WholeLoads.{on_ok, step_ok, step_err}
use Rattle.cycle.proofs.book.Book.begin_and_end_load.Goals as goal

pub returns-in-Ok-clause-steps : goal.returns-in-Ok-clause-steps
returns-in-Ok-clause-steps c =
    on_ok c.trap_load.result _ _ c.trap_load.ensures.steps
    (step_ok c.args.self.now c.act_into.new.self _ c.in_ok-act_into.field-0 c.in-Ok.field-0
    (λ b answer. trap_load 3 false b c.args.actor) c.args.replies.now.items c.act_into.new.replies.items _ c.in-Ok.is
    c.in_ok-act_into.ensures.says c.in_ok-act_into.ensures.replies)

pub returns-in-Err-clause-steps : goal.returns-in-Err-clause-steps
returns-in-Err-clause-steps c =
    step_err c.args.self.now c.act_into.new.self _ c.in_ok-act_into.field-0 c.in-Err.refusal
    (λ b answer. trap_load 3 false b c.args.actor) c.args.replies.now.items c.act_into.new.replies.items c.in-Err.is
    c.in_ok-act_into.ensures.says c.in_ok-act_into.ensures.replies

pub returns-in_err-act_into-clause-memory : goal.returns-in_err-act_into-clause-memory
returns-in_err-act_into-clause-memory c =
    at_err c.from_residual.result _ (none_begun (whole_load c.args.self.now c.args.actor c.args.load).book
    c.args.self.now c.args.replies.now.items c.act_into.new.self c.act_into.new.replies.items
    (whole_goes c.args.self.now c.args.actor c.args.load) c.in_err-act_into.ensures.same_book
    c.in_err-act_into.ensures.same_replies)

pub returns-in-Ok-clause-memory : goal.returns-in-Ok-clause-memory
returns-in-Ok-clause-memory c =
    on_err c.trap_load.result _ _ c.trap_load.ensures.memory (λ h.
    then_begun c.args.self.now c.act_into.new.self c.args.actor c.args.load c.in_ok-act_into.field-0 c.in-Ok.field-0
    (λ b answer. trap_load 3 false b c.args.actor) c.args.replies.now.items c.act_into.new.replies.items _ _ c.in-Ok.is
    c.in_ok-act_into.ensures.says c.in_ok-act_into.ensures.replies h)
