use Rattle.std.proofs.Common.{◌∙◌, ap, sym, refl}
use Rattle.model.specs.Loads.{barrier_of_thread, set_healed}
use Rattle.model.specs.Saying.{healed}
use Rattle.model.specs.States.{HeapState}
use Rattle.model.specs.declared.steps.Step.TheVariants as steps
use Rattle.cycle.specs.Loads.{waits_for_heal}
use Rattle.managed.specs.Goings.{IsInBarrier}
use Rattle.managed.proofs.Clearing.{clears, finishes, finish_clear, heal_clear, heal_never}
use Rattle.managed.proofs.Going.{ends_after, goes_none, goes_thread}
use Rattle.managed.proofs.managed.ManagedHeap.finish_read.Goals as goal

pub returns-in-Ok : goal.returns-in-Ok
returns-in-Ok c =
    let k = clears c.args.self.now c.args.thread c.requires in
    ends_after c.args.self.now c.heal.new.self c.finish.new.self c.args.thread c.finish.result
    (goes_thread (IsInBarrier c.args.thread) healed c.args.self.now c.args.self.now c.heal.new.self c.args.thread
    steps.Heal c.heal.result (refl, tt) c.heal.ensures.does c.heal.ensures.stands
    (goes_none (IsInBarrier c.args.thread) c.args.self.now))
    (finish_clear c.heal.new.self c.finish.new.self c.args.thread (set_healed k.barrier) c.finish.result
    (heal_clear c.args.self.now c.args.thread k.barrier k.open_load c.heal.new.self c.in-Ok.field-0
    c.in-Ok.ensures.does) refl c.finish.ensures.does c.finish.ensures.stands)

pub returns-in-Err : goal.returns-in-Err
returns-in-Err c =
    let k = clears c.args.self.now c.args.thread c.requires in
    absurd (heal_never c.args.self.now c.args.thread k.barrier k.open_load c.heal.new.self c.in-Err.refusal
    c.in-Err.ensures.does)

pub returns-else-heal_is_due : goal.returns-else-heal_is_due
returns-else-heal_is_due c =
    let k = clears c.args.self.now c.args.thread c.requires in
    finish_clear c.args.self.now c.finish-else-heal_is_due.new.self c.args.thread k.barrier
    c.finish-else-heal_is_due.result k.open_load
    (finishes c.args.self.now c.args.thread k
    (ap (λ (h : HeapState). waits_for_heal (barrier_of_thread h c.args.thread)) (sym c.heap.ensures)
    ∙ sym c.heal_is_due.ensures ∙ c.if-heal_is_due.false))
    c.finish-else-heal_is_due.ensures.does c.finish-else-heal_is_due.ensures.stands
