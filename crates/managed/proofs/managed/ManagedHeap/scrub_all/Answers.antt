use Rattle.std.proofs.Common.{◌∙◌, ap, sym}
use Rattle.model.specs.States.{HeapState}
use Rattle.managed.specs.Goings.{IsScrub}
use Rattle.managed.specs.Scrubbing.{needs_no_scrub}
use Rattle.managed.proofs.Corrected.{calm_scrubbed}
use Rattle.managed.proofs.Going.{goes_none}
use Rattle.managed.proofs.managed.ManagedHeap.scrub_all.Goals as goal

pub returns-then-needs_no_scrub-clause-goes : goal.returns-then-needs_no_scrub-clause-goes
returns-then-needs_no_scrub-clause-goes c = goes_none IsScrub c.args.self.now

pub returns-then-needs_no_scrub-clause-scrubbed : goal.returns-then-needs_no_scrub-clause-scrubbed
returns-then-needs_no_scrub-clause-scrubbed c = λ phase.
    calm_scrubbed c.args.self.now _ _ c.law.ensures.holds
    (ap (λ (h : HeapState). needs_no_scrub h.phase) (sym c.heap.ensures) ∙ ap needs_no_scrub (sym c.phase.ensures)
    ∙ sym c.needs_no_scrub.ensures ∙ c.if-needs_no_scrub.true)
