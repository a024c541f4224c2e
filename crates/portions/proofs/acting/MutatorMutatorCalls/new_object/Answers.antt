use Rattle.std.proofs.Common.{refl}
use Rattle.model.specs.declared.steps.Answer.TheVariants as answers
use Rattle.model.specs.declared.steps.Step.TheVariants as steps
use Rattle.portions.proofs.Doing.{does_apart}
use Rattle.portions.proofs.Others.{does_kept, goes_on}
use Rattle.portions.proofs.acting.MutatorMutatorCalls.new_object.Goals as goal

pub invariant_of-self : goal.invariant_of-self
invariant_of-self c = does_apart answers.Birth c.self.inside.heap c.new_object.new.self c.self.inside.thread
    (steps.New c.args.target c.args.layout) c.new_object.result refl c.new_object.ensures.does c.self.invariant

pub returns-clause-on : goal.returns-clause-on
returns-clause-on c = goes_on c.self.inside.thread c.self.inside.heap c.new_object.new.self _ c.self.view_is
    (does_kept answers.Birth c.self.inside.heap c.new_object.new.self c.self.inside.thread
    (steps.New c.args.target c.args.layout) c.new_object.result
    c.new_object.ensures.does c.new_object.ensures.stands)
