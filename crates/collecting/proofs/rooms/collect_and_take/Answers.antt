use Rattle.collecting.proofs.Refilled.{collected_then, collected_stops}
use Rattle.collecting.proofs.Counts.{counted_once}
use Rattle.collecting.proofs.rooms.collect_and_take.Goals as goal

pub returns-in-Ok-clause-refills : goal.returns-in-Ok-clause-refills
returns-in-Ok-clause-refills c = collected_then c.args.thread c.args.policy.words c.args.policy.percent c.args.heap.now
    c.collect_counted.new.heap c.take_or_mark.new.heap c.collect_counted.result c.in-Ok.field-0
    c.take_or_mark.result c.in-Ok.is c.collect_counted.ensures.ends c.take_or_mark.ensures

pub returns-in-Err-clause-refills : goal.returns-in-Err-clause-refills
returns-in-Err-clause-refills c = collected_stops c.args.thread c.args.policy.words c.args.policy.percent
    c.args.heap.now
    c.collect_counted.new.heap c.collect_counted.result c.in-Err.refusal c.in-Err.is
    c.collect_counted.ensures.ends

pub returns-in-Ok-clause-counts : goal.returns-in-Ok-clause-counts
returns-in-Ok-clause-counts c = counted_once c.args.cause c.args.policy.percent c.args.heap.now
    c.collect_counted.new.heap c.collect_counted.result c.args.counters.now c.collect_counted.new.counters
    c.collect_counted.ensures.ends c.collect_counted.ensures.counts

pub returns-in-Err-clause-counts : goal.returns-in-Err-clause-counts
returns-in-Err-clause-counts c = counted_once c.args.cause c.args.policy.percent c.args.heap.now
    c.collect_counted.new.heap c.collect_counted.result c.args.counters.now c.collect_counted.new.counters
    c.collect_counted.ensures.ends c.collect_counted.ensures.counts
