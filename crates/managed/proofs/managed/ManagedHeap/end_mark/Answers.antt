use Rattle.managed.proofs.Gathering.{end_here}
use Rattle.managed.proofs.managed.ManagedHeap.end_mark.Goals as goal

pub returns : goal.returns
returns c = end_here c.args.worker c.args.self.now c.step-reply.new.self c.step-reply.result c.live_of.result
    c.live_of.ensures c.step-reply.ensures.does c.step-reply.ensures.stands
