use Rattle.std.proofs.Common.{arith}
use Rattle.cycle.proofs.Runs.{ran_more, next_part, one_longer}
use Rattle.cycle.proofs.running.act_each.Goals as goal

pub steps-preserved : goal.steps-preserved
steps-preserved c =
    let i = c.steps.invariant in
    record {
      goes = tt;
      ends = tt;
      ran = rw c.add.ensures.added
          (ran_more c.steps.yielded c.steps.replies.items c.args.book.now c.steps.book c.act-reply.new.self
          (c.in-Some.actor, c.in-Some.step) c.act-reply.result i.ran c.act-reply.ensures.acts
          c.act-reply.ensures.promises);
      parts = next_part c.steps.yielded _ _ c.args.steps.items
          (c.in-Some.actor, c.in-Some.step) i.parts c.in-Some.ensures.steps.0;
      count = one_longer c.steps.replies.items c.add.new.replies.items c.steps.yielded
          _ (c.in-Some.actor, c.in-Some.step) i.count c.add.ensures.added;
      room = omega (arith, i.room, c.add.ensures.room);
    }
