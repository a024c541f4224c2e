use Rattle.model.specs.declared.steps.Actor.TheVariants.{Worker}
use Rattle.model.specs.declared.steps.Step.TheVariants as steps
use Rattle.model.specs.declared.steps.Answer.{Answer}
use Rattle.managed.specs.Collecting.{EndsRest}
use Rattle.managed.specs.Sequences.{EndsStep}
use Rattle.managed.proofs.Sequences.{step_ends, then_more, then_stops}
use Rattle.managed.proofs.managed.ManagedHeap.mark_steps.Goals as goal

pub returns-in-Ok : goal.returns-in-Ok
returns-in-Ok c = then_more (EndsStep (Worker c.args.worker) steps.StartMark)
    (λ (a : Answer). EndsRest c.args.worker) c.args.self.now c.step.new.self c.finish_steps.new.self
    c.step.result c.in-Ok.field-0 c.finish_steps.result c.in-Ok.is
    (step_ends (Worker c.args.worker) steps.StartMark c.args.self.now c.step.new.self c.step.result
    c.step.ensures.does c.step.ensures.stands) c.finish_steps.ensures

pub returns-in-Err : goal.returns-in-Err
returns-in-Err c = then_stops (EndsStep (Worker c.args.worker) steps.StartMark)
    (λ (a : Answer). EndsRest c.args.worker) c.args.self.now c.step.new.self c.step.result c.in-Err.refusal c.in-Err.is
    (step_ends (Worker c.args.worker) steps.StartMark c.args.self.now c.step.new.self c.step.result
    c.step.ensures.does c.step.ensures.stands)
