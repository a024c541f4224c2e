use Rattle.std.proofs.Common.{ap, sym, ◌∙◌}
use Rattle.cycle.specs.Loads.{behind, one_step}
use Rattle.cycle.proofs.WholeLoads.{last_step}
use Rattle.script.proofs.doing.do_step.Goals as goal

pub returns : goal.returns
returns c =
    let book = c.args.book.now in
    ap (λ s. behind c.args.replies.now.items (one_step book c.args.command.now.actor s))
    (sym c.in_ok-step.ensures.value)
    ∙ last_step book c.act_into.new.self _ c.in_ok-_reply._reply c.args.replies.now.items c.act_into.new.replies.items
    c.in_ok-_reply.ensures.says c.in_ok-_reply.ensures.replies
