use Rattle.portions.proofs.Collected.{writes_apart}
use Rattle.portions.proofs.Others.{goes_on, writes_kept}
use Rattle.portions.proofs.acting.MutatorMutatorCalls.set_many.Goals as goal

pub invariant_of-self : goal.invariant_of-self
invariant_of-self c = writes_apart c.self.inside.thread c.args.object c.args.first c.args.values.now c.self.inside.heap
    c.set_many.new.self c.set_many.result c.set_many.ensures c.self.invariant

pub returns-clause-on : goal.returns-clause-on
returns-clause-on c = goes_on c.self.inside.thread c.self.inside.heap c.set_many.new.self _ c.self.view_is
    (writes_kept c.self.inside.thread c.args.object c.args.first c.args.values.now c.self.inside.heap
    c.set_many.new.self
    c.set_many.result c.set_many.ensures)
