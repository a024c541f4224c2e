use Rattle.cycle.proofs.WholeLoads.{last_step}
use Rattle.script.proofs.check.steps.check_finish.Goals as goal

pub returns-clause-steps : goal.returns-clause-steps
returns-clause-steps c = last_step c.args.book.now c.check_step.new.book _ c.in_ok-_reply._reply
    c.args.replies.now.items c.check_step.new.replies.items c.in_ok-_reply.ensures.says c.in_ok-_reply.ensures.replies
