use Rattle.std.proofs.Common.{subst}
use Rattle.collecting.specs.Rooms.{EndsMaking, MakingStands}
use Rattle.portions.specs.Portions.{MutatorState, ThenCrosses}
use Rattle.portions.proofs.Collected.{making_alone, making_stands}
use Rattle.portions.proofs.Others.{goes_on, kept_then, making_kept, stands_kept}
use Rattle.portions.proofs.acting.MutatorMutatorCalls.make.Goals as goal

pub settle-requires : goal.settle-requires
settle-requires c = making_alone c.self.inside.thread c.args.policy.words c.args.policy.percent c.args.target
    c.args.layout c.self.inside.heap
    c.make-result.new.self c.make-result.result c.make-result.ensures.ends c.self.invariant.runs

pub invariant_of-self : goal.invariant_of-self
invariant_of-self c = c.settle.ensures.apart

pub returns-clause-ends : goal.returns-clause-ends
returns-clause-ends c = subst (λ (m : MutatorState). ThenCrosses
    (EndsMaking m.thread c.args.policy.words c.args.policy.percent c.args.target c.args.layout m.heap
    c.make-result.result)
    c.settle.new.heap) c.self.view_is (c.make-result.new.self, c.make-result.ensures.ends, c.settle.ensures.goes)

pub returns-clause-stands : goal.returns-clause-stands
returns-clause-stands c = subst (λ (m : MutatorState). MakingStands m.thread c.args.target c.args.layout m.heap
    c.make-result.result c.settle.new.heap) c.self.view_is
    (making_stands c.self.inside.thread c.args.target c.args.layout c.self.inside.heap c.make-result.new.self
    c.settle.new.heap
    c.make-result.result c.make-result.ensures.stands c.settle.ensures.stands)

pub returns-clause-on : goal.returns-clause-on
returns-clause-on c = goes_on c.self.inside.thread c.self.inside.heap c.settle.new.heap _ c.self.view_is
    (kept_then c.self.inside.thread c.self.inside.heap c.make-result.new.self c.settle.new.heap
    (making_kept c.self.inside.thread c.args.target c.args.layout c.self.inside.heap c.make-result.new.self
    c.make-result.result
    c.make-result.ensures.stands)
    (stands_kept c.self.inside.thread c.make-result.new.self c.settle.new.heap c.settle.ensures.stands))
