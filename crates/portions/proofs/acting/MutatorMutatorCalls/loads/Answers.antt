use Rattle.portions.proofs.Collected.{loads_apart}
use Rattle.portions.proofs.Others.{goes_on, loads_kept}
use Rattle.portions.proofs.acting.MutatorMutatorCalls.loads.Goals as goal

pub invariant_of-self : goal.invariant_of-self
invariant_of-self c = loads_apart c.self.inside.thread c.args.object 0 c.args.fields.now c.self.inside.heap
    c.loads.new.self c.loads.result c.loads.ensures c.self.invariant

pub returns-clause-on : goal.returns-clause-on
returns-clause-on c = goes_on c.self.inside.thread c.self.inside.heap c.loads.new.self _ c.self.view_is
    (loads_kept c.self.inside.thread c.args.object 0 c.args.fields.now c.self.inside.heap c.loads.new.self
    c.loads.result
    c.loads.ensures)
