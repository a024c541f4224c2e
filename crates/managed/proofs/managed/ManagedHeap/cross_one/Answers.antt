use Rattle.std.proofs.Common.{◌∙◌, ap, refl, sym}
use Rattle.std.specs.List.{slice_get}
use Rattle.model.specs.States.{HeapState}
use Rattle.model.specs.Threads.{has_crossed, is_parked_in}
use Rattle.model.specs.Saying.{done}
use Rattle.model.specs.declared.steps.Actor.TheVariants.{Worker}
use Rattle.model.specs.declared.steps.Step.TheVariants as steps
use Rattle.managed.specs.Goings.{IsCrossing}
use Rattle.managed.proofs.Crossed.{tried_by, tried_for}
use Rattle.managed.proofs.Going.{goes_none, goes_step, goes_thread}
use Rattle.managed.proofs.managed.ManagedHeap.cross_one.Goals as goal

pub returns-then-is_parked-clause-goes : goal.returns-then-is_parked-clause-goes
returns-then-is_parked-clause-goes c = goes_step (IsCrossing c.args.worker) c.args.self.now c.args.self.now
    c.step.new.self (Worker c.args.worker) (steps.CrossFor c.args.thread) c.step.result refl c.step.ensures.does
    c.step.ensures.stands (goes_none (IsCrossing c.args.worker) c.args.self.now)

pub returns-else-is_parked-clause-goes : goal.returns-else-is_parked-clause-goes
returns-else-is_parked-clause-goes c = goes_thread (IsCrossing c.args.worker) done c.args.self.now c.args.self.now
    c.cross.new.self c.args.thread steps.Cross c.cross.result tt c.cross.ensures.does c.cross.ensures.stands
    (goes_none (IsCrossing c.args.worker) c.args.self.now)

pub returns-then-is_parked-clause-tried : goal.returns-then-is_parked-clause-tried
returns-then-is_parked-clause-tried c = tried_for c.args.worker c.args.self.now c.step.new.self c.args.thread
    c.step.result c.step.ensures.does
    (ap (λ (h : HeapState). has_crossed (slice_get h.threads c.args.thread)) (sym c.heap.ensures)
    ∙ sym c.has_crossed.ensures ∙ c.if-has_crossed.false)
    (ap (λ (h : HeapState). is_parked_in (slice_get h.threads c.args.thread)) (sym c.heap-2.ensures)
    ∙ sym c.is_parked.ensures ∙ c.if-is_parked.true)

pub returns-else-is_parked-clause-tried : goal.returns-else-is_parked-clause-tried
returns-else-is_parked-clause-tried c = tried_by c.args.worker c.args.self.now c.cross.new.self c.args.thread
    c.cross.result c.cross.ensures.does
    (ap (λ (h : HeapState). has_crossed (slice_get h.threads c.args.thread)) (sym c.heap.ensures)
    ∙ sym c.has_crossed.ensures ∙ c.if-has_crossed.false)
    (ap (λ (h : HeapState). is_parked_in (slice_get h.threads c.args.thread)) (sym c.heap-2.ensures)
    ∙ sym c.is_parked.ensures ∙ c.if-is_parked.false)
