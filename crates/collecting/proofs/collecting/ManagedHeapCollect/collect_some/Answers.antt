use Rattle.collecting.proofs.Collections.{unseen}
use Rattle.collecting.proofs.NotRoom.{part_not}
use Rattle.collecting.proofs.Parted.{part_goes}
use Rattle.collecting.proofs.collecting.ManagedHeapCollect.collect_some.Goals as goal

pub returns-clause-goes : goal.returns-clause-goes
returns-clause-goes c = part_goes c.args.self.now c.collect_some.new.heap c.collect_some.result
    c.collect_some.ensures.ends

pub returns-clause-stands : goal.returns-clause-stands
returns-clause-stands c = unseen c.args.self.now c.collect_some.new.heap
    (part_goes c.args.self.now c.collect_some.new.heap c.collect_some.result c.collect_some.ensures.ends)

pub returns-clause-room : goal.returns-clause-room
returns-clause-room c = part_not c.args.self.now c.collect_some.result c.collect_some.new.heap
    c.collect_some.ensures.ends
