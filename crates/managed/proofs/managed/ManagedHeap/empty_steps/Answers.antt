use Rattle.std.proofs.Common.{List, ℕ, subst}
use Rattle.model.specs.declared.steps.Actor.TheVariants.{Worker}
use Rattle.model.specs.declared.steps.Step.TheVariants as steps
use Rattle.model.specs.declared.steps.Answer.{Answer}
use Rattle.model.specs.States.{HeapState}
use Rattle.managed.specs.Emptying.{EndsEmptying, EndsProtected}
use Rattle.managed.specs.Sequences.{EndsStep}
use Rattle.managed.proofs.Sequences.{step_ends, then_more}
use Rattle.managed.proofs.Ahead.{protect_once}
use Rattle.managed.proofs.managed.ManagedHeap.empty_steps.Goals as goal

pub empty_listed-requires-clause-once : goal.empty_listed-requires-clause-once
empty_listed-requires-clause-once g c = protect_once c.args.self.now c.step.new.self c.args.worker c.new.result
    c.step.result c.in-Ok.field-0 c.in-Ok.is c.step.ensures.does

pub returns-in-Ok-clause-ends : goal.returns-in-Ok-clause-ends
returns-in-Ok-clause-ends g c = subst (λ (ns : List ℕ). EndsEmptying c.args.worker c.args.self.now ns
    c.empty_listed.result c.empty_listed.new.self) c.new.ensures
    (then_more (EndsStep (Worker c.args.worker) (steps.Protect c.new.result))
    (λ (a : Answer) (m : HeapState). EndsProtected c.args.worker m c.new.result) c.args.self.now c.step.new.self
    c.empty_listed.new.self c.step.result c.in-Ok.field-0 c.empty_listed.result c.in-Ok.is
    (step_ends (Worker c.args.worker) (steps.Protect c.new.result) c.args.self.now c.step.new.self c.step.result
    c.step.ensures.does c.step.ensures.stands) c.empty_listed.ensures.ends)
