use Rattle.std.proofs.Common.{subst}
use Rattle.model.specs.Saying.{done}
use Rattle.model.specs.States.{HeapState}
use Rattle.model.specs.declared.steps.Actor.TheVariants.{Thread}
use Rattle.model.specs.declared.steps.Step.TheVariants as steps
use Rattle.managed.specs.Goings.{EndsLoad, IsInBarrier}
use Rattle.managed.proofs.Going.{goes_none}
use Rattle.managed.proofs.Running.{runs_one}
use Rattle.managed.proofs.managed.ManagedHeap.end_read.Goals as goal

pub returns-in-Ok : goal.returns-in-Ok
returns-in-Ok c =
    let t = c.args.thread in
    let h = c.args.self.now in (
      h,
      goes_none (IsInBarrier t) h,
      runs_one h c.finish.new.self (Thread t) steps.Finish (done c.in-Ok.field-0)
          c.in-Ok.ensures.does c.in-Ok.ensures.stands,
    )

pub returns-in-Err : goal.returns-in-Err
returns-in-Err c =
    subst (λ (h : HeapState). EndsLoad h c.args.thread c.end_by_traps.result c.end_by_traps.new.self)
    c.in-Err.ensures.does.1 c.end_by_traps.ensures
