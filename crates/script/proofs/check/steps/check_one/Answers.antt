use Rattle.std.proofs.Common.{ap, sym, ◌∙◌}
use Rattle.cycle.specs.Loads.{behind, one_step}
use Rattle.cycle.proofs.WholeLoads.{last_step}
use Rattle.script.proofs.check.steps.check_one.Goals as goal

pub returns-clause-steps : goal.returns-clause-steps
returns-clause-steps c =
    let book = c.args.book.now in
    ap (λ s. behind c.args.replies.now.items (one_step book c.args.command.now.actor s))
    (sym c.in_ok-step.ensures.value)
    ∙ last_step book c.check_step.new.book _ c.in_ok-_reply._reply c.args.replies.now.items
    c.check_step.new.replies.items c.in_ok-_reply.ensures.says c.in_ok-_reply.ensures.replies
