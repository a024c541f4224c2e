use Rattle.std.proofs.Common.{◌≡◌, length, subst}
use Rattle.model.specs.Checkpoints.{all_crossed}
use Rattle.model.specs.States.{HeapState}
use Rattle.managed.proofs.Crossed.{crossings_behind}
use Rattle.managed.proofs.Going.{crossings_same}
use Rattle.managed.proofs.managed.ManagedHeap.cross_all.Goals as goal

pub returns-clause-stands : goal.returns-clause-stands
returns-clause-stands c = crossings_same c.args.worker c.args.self.now c.cross_each.new.self
    c.cross_each.ensures.goes

pub returns-clause-behind : goal.returns-clause-behind
returns-clause-behind c = crossings_behind c.args.worker c.args.self.now c.cross_each.new.self
    c.args.self.now.config.threads c.all_crossed.result
    (subst (λ (h : HeapState). length h.threads ≡ h.config.threads) c.heap.ensures c.law.ensures.heap.sizes.threads)
    c.cross_each.ensures.goes
    c.cross_each.ensures.tried
    (subst (λ (h : HeapState). c.all_crossed.result ≡ all_crossed h) c.heap-2.ensures c.all_crossed.ensures)
