use Rattle.std.proofs.Common.{refl}
use Rattle.model.specs.Saying.{trapped}
use Rattle.model.specs.declared.steps.Step.TheVariants as steps
use Rattle.managed.specs.Goings.{IsInBarrier}
use Rattle.managed.proofs.Going.{goes_none, goes_thread}
use Rattle.managed.proofs.managed.ManagedHeap.trap_is_clear.Goals as goal

pub returns-in-Ok-Clear-clause-goes : goal.returns-in-Ok-Clear-clause-goes
returns-in-Ok-Clear-clause-goes c = goes_thread (IsInBarrier c.args.thread) trapped c.args.self.now c.args.self.now
    c.trap.new.self c.args.thread steps.Trap c.trap.result (refl, tt) c.trap.ensures.does c.trap.ensures.stands
    (goes_none (IsInBarrier c.args.thread) c.args.self.now)

pub returns-in-Ok-Moved-clause-goes : goal.returns-in-Ok-Moved-clause-goes
returns-in-Ok-Moved-clause-goes c = goes_thread (IsInBarrier c.args.thread) trapped c.args.self.now c.args.self.now
    c.trap.new.self c.args.thread steps.Trap c.trap.result (refl, tt) c.trap.ensures.does c.trap.ensures.stands
    (goes_none (IsInBarrier c.args.thread) c.args.self.now)

pub returns-in-Ok-Marked-clause-goes : goal.returns-in-Ok-Marked-clause-goes
returns-in-Ok-Marked-clause-goes c = goes_thread (IsInBarrier c.args.thread) trapped c.args.self.now c.args.self.now
    c.trap.new.self c.args.thread steps.Trap c.trap.result (refl, tt) c.trap.ensures.does c.trap.ensures.stands
    (goes_none (IsInBarrier c.args.thread) c.args.self.now)
