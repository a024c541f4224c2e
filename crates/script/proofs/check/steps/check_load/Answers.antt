use Rattle.std.proofs.Common.{false, ap, sym, ◌∙◌}
use Rattle.cycle.specs.Loads.{behind, trap_load, whole_load}
use Rattle.cycle.proofs.WholeLoads.{on_ok, step_ok, step_err}
use Rattle.script.proofs.check.steps.check_load.Goals as goal

pub returns-in-Ok-clause-steps : goal.returns-in-Ok-clause-steps
returns-in-Ok-clause-steps c =
    let book = c.args.book.now in
    let actor = c.args.command.now.actor in
    on_ok c.check_traps.result _ _ c.check_traps.ensures.steps (λ p.
    ap (λ s. behind c.args.replies.now.items (whole_load book actor s)) (sym c.in_ok-load.ensures.value)
    ∙ step_ok book c.check_step.new.book _ c.in_ok-check_step.field-0 c.in-Ok.field-0
    (λ b answer. trap_load 3 false b actor) c.args.replies.now.items c.check_step.new.replies.items _ c.in-Ok.is
    c.in_ok-check_step.ensures.says c.in_ok-check_step.ensures.replies p)

pub returns-in-Err-clause-steps : goal.returns-in-Err-clause-steps
returns-in-Err-clause-steps c =
    let book = c.args.book.now in
    let actor = c.args.command.now.actor in
    ap (λ s. behind c.args.replies.now.items (whole_load book actor s)) (sym c.in_ok-load.ensures.value)
    ∙ step_err book c.check_step.new.book _ c.in_ok-check_step.field-0 c.in-Err.field-0
    (λ b answer. trap_load 3 false b actor) c.args.replies.now.items c.check_step.new.replies.items c.in-Err.is
    c.in_ok-check_step.ensures.says c.in_ok-check_step.ensures.replies
