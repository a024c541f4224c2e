use Rattle.std.proofs.Common.{refl}
use Rattle.model.specs.Saying.{lent}
use Rattle.model.specs.declared.steps.Step.TheVariants as steps
use Rattle.portions.proofs.Doing.{does_apart}
use Rattle.portions.proofs.Others.{does_kept, goes_on}
use Rattle.portions.proofs.acting.MutatorMutatorCalls.take.Goals as goal

pub invariant_of-self : goal.invariant_of-self
invariant_of-self c = does_apart lent c.self.inside.heap c.take.new.self c.self.inside.thread
    (steps.Take c.args.words) c.take.result refl c.take.ensures.does c.self.invariant

pub returns-clause-on : goal.returns-clause-on
returns-clause-on c = goes_on c.self.inside.thread c.self.inside.heap c.take.new.self _ c.self.view_is
    (does_kept lent c.self.inside.heap c.take.new.self c.self.inside.thread (steps.Take c.args.words) c.take.result
    c.take.ensures.does c.take.ensures.stands)
