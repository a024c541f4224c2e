use Rattle.std.proofs.Common.{◌∙◌, sym}
use Rattle.managed.specs.Collecting.{EndsCrossing}
use Rattle.managed.proofs.Gathering.{crossing_ends}
use Rattle.managed.proofs.Sequences.{then_more, then_stops}
use Rattle.collecting.specs.Collections.{WORKER, EndsLeftPages}
use Rattle.collecting.proofs.leftovers.settle.Goals as goal

pub settle_crossed-requires : goal.settle_crossed-requires
settle_crossed-requires c = sym c.cross_all.ensures.ends ∙ c.in-Ok.is

pub returns-in-Ok : goal.returns-in-Ok
returns-in-Ok c = then_more (EndsCrossing WORKER) (λ (u : Unit {0}). EndsLeftPages) c.args.heap.now
    c.cross_all.new.self c.settle_crossed.new.heap c.cross_all.result tt c.settle_crossed.result c.in-Ok.is
    (crossing_ends WORKER c.args.heap.now c.cross_all.new.self c.cross_all.result c.cross_all.ensures.ends
    c.cross_all.ensures.goes c.cross_all.ensures.behind) c.settle_crossed.ensures

pub returns-in-Err : goal.returns-in-Err
returns-in-Err c = then_stops (EndsCrossing WORKER) (λ (u : Unit {0}). EndsLeftPages) c.args.heap.now
    c.cross_all.new.self c.cross_all.result c.in-Err.refusal c.in-Err.is
    (crossing_ends WORKER c.args.heap.now c.cross_all.new.self c.cross_all.result c.cross_all.ensures.ends
    c.cross_all.ensures.goes c.cross_all.ensures.behind)
