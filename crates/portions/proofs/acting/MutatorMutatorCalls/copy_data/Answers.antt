use Rattle.portions.proofs.Collected.{copies_apart}
use Rattle.portions.proofs.Others.{goes_on, copies_kept}
use Rattle.portions.proofs.acting.MutatorMutatorCalls.copy_data.Goals as goal

pub invariant_of-self : goal.invariant_of-self
invariant_of-self c = copies_apart c.self.inside.thread c.args.target c.args.first c.args.source
    c.args.first_of_source c.args.count
    c.self.inside.heap c.copy_data.new.self c.copy_data.result c.copy_data.ensures c.self.invariant

pub returns-clause-on : goal.returns-clause-on
returns-clause-on c = goes_on c.self.inside.thread c.self.inside.heap c.copy_data.new.self _ c.self.view_is
    (copies_kept c.self.inside.thread c.args.target c.args.first c.args.source c.args.first_of_source c.args.count
    c.self.inside.heap
    c.copy_data.new.self c.copy_data.result c.copy_data.ensures)
