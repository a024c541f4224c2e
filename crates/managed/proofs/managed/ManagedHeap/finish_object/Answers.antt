use Rattle.managed.proofs.Prepared.{then_more}
use Rattle.managed.proofs.managed.ManagedHeap.finish_object.Goals as goal

pub returns : goal.returns
returns c = then_more c.args.worker c.args.self.now c.scan_field.new.self c.finish_fields.new.self
    c.scan_field.ensures c.finish_fields.ensures.goes
