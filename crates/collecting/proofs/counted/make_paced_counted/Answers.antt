use Rattle.std.proofs.Common.{◌∙◌, sym}
use Rattle.collecting.proofs.Paced.{is_counted, is_paced, not_paced}
use Rattle.collecting.proofs.counted.make_paced_counted.Goals as goal

pub returns-else-lacks_buffer-clause-makes : goal.returns-else-lacks_buffer-clause-makes
returns-else-lacks_buffer-clause-makes c = not_paced c.args.thread c.args.policy.words c.args.policy.percent
    c.args.policy.free c.args.budget c.args.target c.args.layout c.args.parts.now c.args.heap.now
    c.new_object-made.new.self c.new_object-made.result (sym c.lacks_buffer.ensures ∙ c.if-lacks_buffer.false)
    c.new_object-made.ensures.does c.new_object-made.ensures.stands

pub returns-then-lacks_buffer-clause-makes : goal.returns-then-lacks_buffer-clause-makes
returns-then-lacks_buffer-clause-makes c = is_paced c.args.thread c.args.policy.words c.args.policy.percent
    c.args.policy.free c.args.budget c.args.target c.args.layout c.args.parts.now c.pace_and_make_counted.new.parts
    c.args.heap.now c.new_object-made.new.self c.pace_and_make_counted.new.heap c.new_object-made.result
    c.pace_and_make_counted.result (sym c.lacks_buffer.ensures ∙ c.if-lacks_buffer.true)
    c.new_object-made.ensures.does c.pace_and_make_counted.ensures.makes

pub returns-then-lacks_buffer-clause-counts : goal.returns-then-lacks_buffer-clause-counts
returns-then-lacks_buffer-clause-counts c = is_counted c.args.thread c.args.policy.words c.args.policy.free
    c.args.policy.percent c.args.budget c.args.target c.args.layout c.args.parts.now
    c.pace_and_make_counted.new.parts c.args.heap.now c.new_object-made.new.self c.new_object-made.result
    c.args.counters.now c.pace_and_make_counted.new.counters
    (sym c.lacks_buffer.ensures ∙ c.if-lacks_buffer.true) c.new_object-made.ensures.does
    c.pace_and_make_counted.ensures.counts
