use Rattle.collecting.proofs.Parted.{part_scrubbed, part_stops, still_calm}
use Rattle.collecting.proofs.Staged.{goes_stage, part_off, part_on}
use Rattle.collecting.proofs.parts.collect_some.Goals as goal

pub returns-in-Ok-clause-ends : goal.returns-in-Ok-clause-ends
returns-in-Ok-clause-ends c = part_scrubbed c.args.heap.now c.next_part.new.heap c.end_part.new.heap c.next_part.result
    c.in-Ok.last c.end_part.result c.in-Ok.is
    (goes_stage c.args.percent c.args.budget c.args.parts.now c.args.heap.now c.next_part.result c.next_part.new.parts
    c.next_part.new.heap c.next_part.ensures)
    c.end_part.ensures.goes c.end_part.ensures.ended

pub returns-in-Ok-clause-scrubbed : goal.returns-in-Ok-clause-scrubbed
returns-in-Ok-clause-scrubbed c = still_calm c.next_part.new.heap c.end_part.new.heap c.end_part.ensures.goes
    c.end_part.ensures.scrubbed

pub returns-in-Ok-clause-parts : goal.returns-in-Ok-clause-parts
returns-in-Ok-clause-parts c = part_on c.args.percent c.args.budget c.args.parts.now c.next_part.new.parts
    c.args.heap.now c.next_part.new.heap c.end_part.new.heap c.next_part.result c.in-Ok.last c.end_part.result
    c.in-Ok.is c.next_part.ensures c.end_part.ensures.goes c.end_part.ensures.last

pub returns-in-Err-clause-ends : goal.returns-in-Err-clause-ends
returns-in-Err-clause-ends c = part_stops c.args.heap.now c.next_part.new.heap c.next_part.result
    c.in-Err.refusal c.in-Err.is
    (goes_stage c.args.percent c.args.budget c.args.parts.now c.args.heap.now c.next_part.result c.next_part.new.parts
    c.next_part.new.heap c.next_part.ensures)

pub returns-in-Err-clause-parts : goal.returns-in-Err-clause-parts
returns-in-Err-clause-parts c = part_off c.args.percent c.args.budget c.args.parts.now c.next_part.new.parts
    c.args.heap.now c.next_part.new.heap c.next_part.result c.in-Err.refusal c.in-Err.is c.next_part.ensures
