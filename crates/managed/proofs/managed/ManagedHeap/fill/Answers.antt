use Rattle.std.proofs.Common.{arith}
use Rattle.managed.proofs.Several.{fill_done, fill_sets, fill_stores}
use Rattle.managed.proofs.managed.ManagedHeap.fill.Goals as goal

pub returns-then-stored-sources : goal.returns-then-stored-sources
returns-then-stored-sources c = fill_stores c.args.thread c.args.object c.args.self.now c.store_first-stored.new.self
    c.fill_from-then-stored-sources.new.self c.args.sources.now c.args.nums.now c.store_first-stored.result
    c.fill_from-then-stored-sources.result c.store_first-stored.ensures.stores c.fill_from-then-stored-sources.ensures

pub returns-then-set-nums : goal.returns-then-set-nums
returns-then-set-nums c = fill_sets c.args.thread c.args.object c.args.self.now c.store_first-stored.new.self
    c.set_first-set.new.self c.set_from.new.self c.args.sources.now c.args.nums.now c.store_first-stored.result c.set_first-set.result
    c.set_from.result (omega (arith, c.if-stored-sources.false)) c.store_first-stored.ensures.stores c.set_first-set.ensures
    c.set_from.ensures

pub returns : goal.returns
returns c = fill_done c.args.thread c.args.object c.args.self.now c.store_first-stored.new.self
    c.set_first-set.new.self c.args.sources.now c.args.nums.now c.store_first-stored.result c.set_first-set.result
    (omega (arith, c.if-stored-sources.false)) (omega (arith, c.if-set-nums.false)) c.store_first-stored.ensures.stores
    c.set_first-set.ensures
