use Rattle.std.proofs.Common.{subst}
use Rattle.model.specs.declared.steps.Step.TheVariants as steps
use Rattle.model.specs.Owning.{IsStore}
use Rattle.model.specs.Saying.{scrubbed}
use Rattle.model.specs.States.{HeapState}
use Rattle.managed.specs.Goings.{IsScrub}
use Rattle.managed.proofs.Corrected.{scrub_corrects}
use Rattle.managed.proofs.Going.{goes_none, goes_thread}
use Rattle.managed.proofs.managed.ManagedHeap.scrub_one.Goals as goal

pub returns-clause-goes : goal.returns-clause-goes
returns-clause-goes c = goes_thread IsScrub scrubbed c.args.self.now c.args.self.now c.scrub.new.self
    c.args.thread (steps.Scrub c.args.register) c.scrub.result tt c.scrub.ensures.does c.scrub.ensures.stands
    (goes_none IsScrub c.args.self.now)

pub returns-clause-scrubbed : goal.returns-clause-scrubbed
returns-clause-scrubbed c = scrub_corrects c.args.self.now c.scrub.new.self _ _ c.args.thread c.args.register
    c.scrub.result (subst (λ (h : HeapState). IsStore h.store) c.heap.ensures c.law-2.ensures.store)
    c.law.ensures.holds c.scrub.ensures.does
