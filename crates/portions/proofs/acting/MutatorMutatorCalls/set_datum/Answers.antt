use Rattle.std.proofs.Common.{refl}
use Rattle.model.specs.Saying.{done}
use Rattle.model.specs.declared.steps.Step.TheVariants as steps
use Rattle.portions.proofs.Doing.{does_apart}
use Rattle.portions.proofs.Others.{does_kept, goes_on}
use Rattle.portions.proofs.acting.MutatorMutatorCalls.set_datum.Goals as goal

pub invariant_of-self : goal.invariant_of-self
invariant_of-self c = does_apart done c.self.inside.heap c.set_datum.new.self c.self.inside.thread
    (steps.SetDatum c.args.object c.args.index c.args.value) c.set_datum.result refl c.set_datum.ensures.does
    c.self.invariant

pub returns-clause-on : goal.returns-clause-on
returns-clause-on c = goes_on c.self.inside.thread c.self.inside.heap c.set_datum.new.self _ c.self.view_is
    (does_kept done c.self.inside.heap c.set_datum.new.self c.self.inside.thread
    (steps.SetDatum c.args.object c.args.index c.args.value) c.set_datum.result
    c.set_datum.ensures.does c.set_datum.ensures.stands)
