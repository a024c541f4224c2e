use Rattle.std.proofs.Common.{drop}
use Rattle.managed.specs.Batches.{set_steps, store_steps}
use Rattle.managed.proofs.Several.{data_whole, filled_stops, filled_then}
use Rattle.managed.proofs.managed.ManagedHeap.fill_from.Goals as goal

pub returns-in-Ok : goal.returns-in-Ok
returns-in-Ok c = filled_then c.args.thread
    (store_steps c.args.object c.args.stored (drop c.args.stored c.args.sources.now))
    (set_steps c.args.object 0 c.args.nums.now) c.args.self.now c.store_from.new.self c.set_from.new.self
    c.store_from.result c.in-Ok.field-0 c.set_from.result c.in-Ok.is c.store_from.ensures
    (data_whole c.args.thread c.args.object c.store_from.new.self c.set_from.new.self c.args.nums.now c.set_from.result
    c.set_from.ensures)

pub returns-in-Err : goal.returns-in-Err
returns-in-Err c = filled_stops c.args.thread
    (store_steps c.args.object c.args.stored (drop c.args.stored c.args.sources.now))
    (set_steps c.args.object 0 c.args.nums.now) c.args.self.now c.store_from.new.self c.store_from.result
    c.in-Err.refusal c.in-Err.is c.store_from.ensures
