use Rattle.managed.proofs.Gathering.{crossing_ends}
use Rattle.collecting.specs.Collections.{WORKER}
use Rattle.collecting.proofs.portions.cross.Goals as goal

pub returns : goal.returns
returns c = crossing_ends WORKER c.args.heap.now c.cross_all.new.self c.cross_all.result c.cross_all.ensures.ends
    c.cross_all.ensures.goes c.cross_all.ensures.behind
