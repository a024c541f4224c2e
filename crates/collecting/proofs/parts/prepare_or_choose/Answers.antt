use Rattle.collecting.proofs.Staged.{prepares_else, prepares_then}
use Rattle.collecting.proofs.parts.prepare_or_choose.Goals as goal

pub returns-then-is_prepared : goal.returns-then-is_prepared
returns-then-is_prepared c = prepares_then c.args.budget c.args.parts.now c.choose_part.new.parts c.args.heap.now
    c.heap.result.now c.choose_part.new.heap c.is_prepared.result c.choose_part.result c.is_prepared.ensures
    c.heap.ensures c.if-is_prepared.true c.choose_part.ensures

pub returns-else-is_prepared : goal.returns-else-is_prepared
returns-else-is_prepared c = prepares_else c.args.budget c.args.parts.now c.prepare_part.new.parts c.args.heap.now
    c.heap.result.now c.prepare_part.new.heap c.is_prepared.result c.prepare_part.result c.is_prepared.ensures
    c.heap.ensures c.if-is_prepared.false c.prepare_part.ensures
