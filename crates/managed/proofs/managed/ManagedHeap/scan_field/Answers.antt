use Rattle.std.proofs.Common.{subst}
use Rattle.model.specs.Holding.{IsHeap}
use Rattle.managed.proofs.Prepared.{field_scanned}
use Rattle.managed.proofs.managed.ManagedHeap.scan_field.Goals as goal

pub returns : goal.returns
returns c = field_scanned c.args.worker c.args.self.now c.step.new.self c.step.result c.requires.work c.requires.busy
    (subst IsHeap c.heap.ensures c.law.ensures.heap) c.step.ensures.does c.step.ensures.stands
