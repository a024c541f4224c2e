use Rattle.collecting.proofs.Collections.{collecting_goes, unseen}
use Rattle.collecting.proofs.NotRoom.{collecting_not}
use Rattle.collecting.proofs.counted.ManagedHeapCollectCounted.collect_counted.Goals as goal

pub returns-clause-goes : goal.returns-clause-goes
returns-clause-goes c = collecting_goes c.args.percent c.args.self.now c.collect_counted-result.new.heap
    c.collect_counted-result.result c.collect_counted-result.ensures.ends

pub returns-clause-stands : goal.returns-clause-stands
returns-clause-stands c = unseen c.args.self.now c.collect_counted-result.new.heap
    (collecting_goes c.args.percent c.args.self.now c.collect_counted-result.new.heap c.collect_counted-result.result
    c.collect_counted-result.ensures.ends)

pub returns-clause-room : goal.returns-clause-room
returns-clause-room c = collecting_not c.args.percent c.args.self.now c.collect_counted-result.result
    c.collect_counted-result.new.heap c.collect_counted-result.ensures.ends
