use Rattle.portions.proofs.Collected.{bytes_apart}
use Rattle.portions.proofs.Others.{goes_on, bytes_kept}
use Rattle.portions.proofs.acting.MutatorMutatorCalls.write_bytes.Goals as goal

pub invariant_of-self : goal.invariant_of-self
invariant_of-self c = bytes_apart c.self.inside.thread c.args.object c.args.offset c.args.bytes.now
    c.self.inside.heap c.write_bytes.new.self c.write_bytes.result c.write_bytes.ensures c.self.invariant

pub returns-clause-on : goal.returns-clause-on
returns-clause-on c = goes_on c.self.inside.thread c.self.inside.heap c.write_bytes.new.self _ c.self.view_is
    (bytes_kept c.self.inside.thread c.args.object c.args.offset c.args.bytes.now c.self.inside.heap
    c.write_bytes.new.self c.write_bytes.result c.write_bytes.ensures)
