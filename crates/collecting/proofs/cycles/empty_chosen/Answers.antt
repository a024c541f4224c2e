use Rattle.std.proofs.Common.{◌∙◌}
use Rattle.collecting.proofs.Collections.{chosen_ends, chosen_stops}
use Rattle.managed.specs.Scrubbing.{AreScrubbed}
use Rattle.managed.proofs.Corrected.{calm_scrubbed, if_ok}
use Rattle.collecting.proofs.cycles.empty_chosen.Goals as goal

pub returns-in-Ok-clause-ends : goal.returns-in-Ok-clause-ends
returns-in-Ok-clause-ends g c = chosen_ends c.args.heap.now c.empty.new.heap c.args.pages.items c.len-count.result
    c.empty.result c.in-Ok.field-0 c.in-Ok.is (c.len-count.ensures ∙ c.args.pages.ok.0) c.if-count-eq0.false
    c.empty.ensures.ends

pub returns-in-Err-clause-ends : goal.returns-in-Err-clause-ends
returns-in-Err-clause-ends g c = chosen_stops c.args.heap.now c.empty.new.heap c.args.pages.items c.len-count.result
    c.empty.result c.in-Err.refusal c.in-Err.is (c.len-count.ensures ∙ c.args.pages.ok.0) c.if-count-eq0.false
    c.empty.ensures.ends

pub returns-then-count-eq0-clause-scrubbed : goal.returns-then-count-eq0-clause-scrubbed
returns-then-count-eq0-clause-scrubbed g c = λ calm. calm_scrubbed c.args.heap.now _ _ c.law.ensures.holds calm

pub returns-in-Ok-clause-scrubbed : goal.returns-in-Ok-clause-scrubbed
returns-in-Ok-clause-scrubbed g c = λ calm. if_ok (AreScrubbed c.empty.new.heap) c.empty.result tt c.in-Ok.is
    c.empty.ensures.scrubbed
