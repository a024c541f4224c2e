use Rattle.collecting.proofs.Collections.{collecting_goes, unseen}
use Rattle.collecting.proofs.NotRoom.{collecting_not}
use Rattle.collecting.proofs.threading.collect_by.Goals as goal

pub returns-clause-goes : goal.returns-clause-goes
returns-clause-goes g c = collecting_goes c.args.percent c.args.heap.now c.collect_whole.new.heap
    c.collect_whole.result c.collect_whole.ensures.ends

pub returns-clause-stands : goal.returns-clause-stands
returns-clause-stands g c = unseen c.args.heap.now c.collect_whole.new.heap
    (collecting_goes c.args.percent c.args.heap.now c.collect_whole.new.heap c.collect_whole.result
    c.collect_whole.ensures.ends)

pub returns-clause-room : goal.returns-clause-room
returns-clause-room g c = collecting_not c.args.percent c.args.heap.now c.collect_whole.result
    c.collect_whole.new.heap c.collect_whole.ensures.ends
