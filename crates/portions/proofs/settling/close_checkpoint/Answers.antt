use Rattle.collecting.specs.Collections.{WORKER}
use Rattle.managed.specs.Goings.{IsCrossing}
use Rattle.portions.proofs.Collected.{crossed_all, crossing_stay, still_open}
use Rattle.portions.proofs.Doing.{goes_stay}
use Rattle.portions.proofs.Parking.{alone_stays}
use Rattle.portions.proofs.settling.close_checkpoint.Goals as goal

pub returns-clause-apart : goal.returns-clause-apart
returns-clause-apart c =
    let a = alone_stays c.args.heap.now c.cross_all.new.self c.args.thread (goes_stay (IsCrossing WORKER)
    (crossing_stay WORKER) c.args.heap.now c.cross_all.new.self c.cross_all.ensures.goes) c.requires in
    still_open c.cross_all.new.self c.args.thread a (crossed_all c.cross_all.new.self c.args.thread c.cross_all.result
    c.cross_all.ensures.ends c.cross_all.ensures.behind c.law.ensures a)
