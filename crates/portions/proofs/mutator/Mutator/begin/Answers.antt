use Rattle.std.proofs.Common.{refl, subst, sym}
use Rattle.managed.specs.Collecting.{StandsUnseen}
use Rattle.model.specs.Saying.{done}
use Rattle.model.specs.declared.steps.Step.TheVariants as steps
use Rattle.portions.specs.Apart.{IsStill}
use Rattle.portions.specs.Portions.{MutatorState}
use Rattle.portions.proofs.Doing.{not_protecting, scrubs_apart, scrubs_use}
use Rattle.portions.proofs.Parking.{unpark_apart}
use Rattle.portions.proofs.Others.{does_unseen, scrubs_unseen, unparking_unseen, unseen_then}
use Rattle.portions.proofs.mutator.Mutator.begin.Goals as goal

pub invariant_of-self : goal.invariant_of-self
invariant_of-self c = scrubs_apart c.unpark.new.self c.scrub_all.new.self c.args.thread c.scrub_all.ensures.goes
    (unpark_apart c.self.inside.heap c.unpark.new.self c.args.thread c.unpark.result c.unpark.ensures.does
    (subst (λ (m : MutatorState). IsStill m.heap) (sym c.self.view_is) c.leave.ensures.still)).0

pub returns-clause-begins : goal.returns-clause-begins
returns-clause-begins c =
    let u = unpark_apart c.self.inside.heap c.unpark.new.self c.args.thread c.unpark.result c.unpark.ensures.does
    (subst (λ (m : MutatorState). IsStill m.heap) (sym c.self.view_is) c.leave.ensures.still) in
    record {
      thread = refl;
      uses = scrubs_use c.unpark.new.self c.scrub_all.new.self c.args.thread c.scrub_all.ensures.goes u.0 u.1
          (c.scrub_all.ensures.scrubbed (not_protecting c.unpark.new.self.phase u.0.phase));
    }

pub returns-clause-same : goal.returns-clause-same
returns-clause-same c = unseen_then c.args.self.now.heap c.self.inside.heap c.scrub_all.new.self
    (subst (λ (m : MutatorState). StandsUnseen c.args.self.now.heap m.heap) (sym c.self.view_is) c.leave.ensures.same)
    (unseen_then c.self.inside.heap c.unpark.new.self c.scrub_all.new.self
    (does_unseen done c.self.inside.heap c.unpark.new.self c.args.thread steps.Unpark c.unpark.result
    (unparking_unseen c.args.thread) c.unpark.ensures.does c.unpark.ensures.stands)
    (scrubs_unseen c.unpark.new.self c.scrub_all.new.self c.scrub_all.ensures.goes))
