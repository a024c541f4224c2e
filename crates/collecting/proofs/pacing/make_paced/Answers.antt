use Rattle.std.proofs.Common.{◌∙◌, sym}
use Rattle.collecting.proofs.Paced.{is_paced, not_paced}
use Rattle.collecting.proofs.pacing.make_paced.Goals as goal

pub returns-else-lacks_buffer : goal.returns-else-lacks_buffer
returns-else-lacks_buffer c = not_paced c.args.thread c.args.policy.words c.args.policy.percent c.args.policy.free
    c.args.budget c.args.target c.args.layout c.args.parts.now c.args.heap.now c.new_object-made.new.self
    c.new_object-made.result (sym c.lacks_buffer.ensures ∙ c.if-lacks_buffer.false) c.new_object-made.ensures.does
    c.new_object-made.ensures.stands

pub returns-then-lacks_buffer : goal.returns-then-lacks_buffer
returns-then-lacks_buffer c = is_paced c.args.thread c.args.policy.words c.args.policy.percent c.args.policy.free
    c.args.budget c.args.target c.args.layout c.args.parts.now c.pace_and_make.new.parts c.args.heap.now
    c.new_object-made.new.self c.pace_and_make.new.heap c.new_object-made.result c.pace_and_make.result
    (sym c.lacks_buffer.ensures ∙ c.if-lacks_buffer.true) c.new_object-made.ensures.does c.pace_and_make.ensures
