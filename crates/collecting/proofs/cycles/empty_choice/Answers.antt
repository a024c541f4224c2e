use Rattle.std.proofs.Common.{ap, subst, ◌∙◌}
use Rattle.managed.specs.Scrubbing.{AreScrubbed, needs_no_scrub}
use Rattle.managed.proofs.Corrected.{if_ok}
use Rattle.model.specs.States.{HeapState}
use Rattle.collecting.specs.Collections.{EndsChosen}
use Rattle.collecting.proofs.Collections.{choice_ends, choice_stops}
use Rattle.collecting.proofs.cycles.empty_choice.Goals as goal

pub returns-in-Ok-clause-ends : goal.returns-in-Ok-clause-ends
returns-in-Ok-clause-ends g c = choice_ends c.args.live c.args.choice.live_words c.args.choice.words c.in-Ok.emptied
    c.args.heap.now c.empty_chosen.new.heap c.args.choice.pages.items c.empty_chosen.result c.in-Ok.is
    (subst (λ h. EndsChosen h c.args.choice.pages.items c.empty_chosen.result c.empty_chosen.new.heap)
    c.prepare.ensures c.empty_chosen.ensures.ends)

pub returns-in-Err-clause-ends : goal.returns-in-Err-clause-ends
returns-in-Err-clause-ends g c = choice_stops c.args.live c.args.choice.live_words c.args.choice.words c.args.heap.now
    c.empty_chosen.new.heap c.args.choice.pages.items c.empty_chosen.result c.in-Err.refusal c.in-Err.is
    (subst (λ h. EndsChosen h c.args.choice.pages.items c.empty_chosen.result c.empty_chosen.new.heap)
    c.prepare.ensures c.empty_chosen.ensures.ends)

pub returns-in-Ok-clause-scrubbed : goal.returns-in-Ok-clause-scrubbed
returns-in-Ok-clause-scrubbed g c = λ calm. if_ok (AreScrubbed c.empty_chosen.new.heap) c.empty_chosen.result
    c.in-Ok.emptied c.in-Ok.is
    (c.empty_chosen.ensures.scrubbed
    (ap (λ (h : HeapState). needs_no_scrub h.phase) c.prepare.ensures ∙ calm))
