use Rattle.std.proofs.Common.{subst}
use Rattle.collecting.specs.Filling.{EndsMakingWith}
use Rattle.portions.specs.Portions.{MutatorState, ThenCrosses}
use Rattle.portions.proofs.Collected.{making_with_alone}
use Rattle.portions.proofs.Others.{goes_on, kept_then, making_with_kept, stands_kept}
use Rattle.portions.proofs.acting.MutatorMutatorCalls.make_with.Goals as goal

pub settle-requires : goal.settle-requires
settle-requires c = making_with_alone c.self.inside.thread c.args.policy.words c.args.policy.percent c.args.target
    c.args.layout c.args.sources.now c.args.nums.now c.self.inside.heap c.make_with-result.new.self
    c.make_with-result.result c.make_with-result.ensures c.self.invariant.runs

pub invariant_of-self : goal.invariant_of-self
invariant_of-self c = c.settle.ensures.apart

pub returns-clause-ends : goal.returns-clause-ends
returns-clause-ends c = subst (λ (m : MutatorState). ThenCrosses
    (EndsMakingWith m.thread c.args.policy.words c.args.policy.percent c.args.target c.args.layout
    c.args.sources.now c.args.nums.now m.heap c.make_with-result.result)
    c.settle.new.heap) c.self.view_is (c.make_with-result.new.self, c.make_with-result.ensures, c.settle.ensures.goes)

pub returns-clause-on : goal.returns-clause-on
returns-clause-on c = goes_on c.self.inside.thread c.self.inside.heap c.settle.new.heap _ c.self.view_is
    (kept_then c.self.inside.thread c.self.inside.heap c.make_with-result.new.self c.settle.new.heap
    (making_with_kept c.self.inside.thread c.args.policy.words c.args.policy.percent c.args.target c.args.layout
    c.args.sources.now c.args.nums.now c.self.inside.heap c.make_with-result.new.self c.make_with-result.result
    c.make_with-result.ensures)
    (stands_kept c.self.inside.thread c.make_with-result.new.self c.settle.new.heap c.settle.ensures.stands))
