use Rattle.collecting.proofs.Staged.{crossed_portion}
use Rattle.collecting.proofs.portions.cross_open.Goals as goal

pub returns : goal.returns
returns c = crossed_portion c.args.heap.now c.cross.new.heap c.cross.result c.cross.ensures
