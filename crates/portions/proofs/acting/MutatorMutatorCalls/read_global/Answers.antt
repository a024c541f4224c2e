use Rattle.std.proofs.Common.{refl}
use Rattle.model.specs.declared.steps.Step.TheVariants as steps
use Rattle.portions.proofs.Loads.{load_apart}
use Rattle.portions.proofs.Others.{goes_on, load_kept}
use Rattle.portions.proofs.acting.MutatorMutatorCalls.read_global.Goals as goal

pub invariant_of-self : goal.invariant_of-self
invariant_of-self c = load_apart c.self.inside.heap c.read_global.new.self c.self.inside.thread
    (steps.LoadGlobal c.args.target c.args.global) c.read_global.result refl c.read_global.ensures.loads
    c.self.invariant

pub returns-clause-on : goal.returns-clause-on
returns-clause-on c = goes_on c.self.inside.thread c.self.inside.heap c.read_global.new.self _ c.self.view_is
    (load_kept c.self.inside.heap c.read_global.new.self c.self.inside.thread
    (steps.LoadGlobal c.args.target c.args.global)
    c.read_global.result c.read_global.ensures.loads)
