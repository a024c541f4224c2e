use Rattle.std.proofs.Common.{subst}
use Rattle.managed.specs.Collecting.{StandsUnseen}
use Rattle.model.specs.Saying.{done}
use Rattle.model.specs.declared.steps.Step.TheVariants as steps
use Rattle.portions.specs.Portions.{MutatorState}
use Rattle.portions.proofs.Parking.{park_stills, still_apart}
use Rattle.portions.proofs.Others.{does_kept, does_unseen, goes_on, parking_unseen}
use Rattle.portions.proofs.mutator.Mutator.leave.Goals as goal

pub invariant_of-self : goal.invariant_of-self
invariant_of-self c = still_apart c.park.new.self c.self.inside.thread (park_stills c.self.inside.heap c.park.new.self
    c.self.inside.thread c.park.result c.park.ensures.does c.self.invariant)

pub returns-clause-still : goal.returns-clause-still
returns-clause-still c = park_stills c.self.inside.heap c.park.new.self c.self.inside.thread c.park.result
    c.park.ensures.does c.self.invariant

pub returns-clause-on : goal.returns-clause-on
returns-clause-on c = goes_on c.self.inside.thread c.self.inside.heap c.park.new.self _ c.self.view_is
    (does_kept done c.self.inside.heap c.park.new.self c.self.inside.thread steps.Park c.park.result
    c.park.ensures.does c.park.ensures.stands)

pub returns-clause-same : goal.returns-clause-same
returns-clause-same c = subst (λ (m : MutatorState). StandsUnseen m.heap c.park.new.self) c.self.view_is
    (does_unseen done c.self.inside.heap c.park.new.self c.self.inside.thread steps.Park c.park.result
    (parking_unseen c.self.inside.thread) c.park.ensures.does c.park.ensures.stands)
