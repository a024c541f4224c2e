use Rattle.std.proofs.Common.{subst}
use Rattle.collecting.specs.Collections.{EndsCollecting}
use Rattle.portions.specs.Portions.{MutatorState, ThenCrosses}
use Rattle.portions.proofs.Collected.{collects_alone}
use Rattle.portions.proofs.Others.{goes_on, kept_then, stands_kept, unseen_kept}
use Rattle.portions.proofs.mutator.Mutator.collect_by.Goals as goal

pub settle-requires : goal.settle-requires
settle-requires g c = collects_alone c.self.inside.thread c.self.inside.heap c.collect_by-result.new.heap
    c.collect_by-result.ensures.goes c.self.invariant.runs

pub invariant_of-self : goal.invariant_of-self
invariant_of-self g c = c.settle.ensures.apart

pub returns-clause-ends : goal.returns-clause-ends
returns-clause-ends g c = subst
    (λ (m : MutatorState). ThenCrosses (EndsCollecting c.args.percent m.heap c.collect_by-result.result)
    c.settle.new.heap) c.self.view_is
    (c.collect_by-result.new.heap, c.collect_by-result.ensures.ends, c.settle.ensures.goes)

pub returns-clause-on : goal.returns-clause-on
returns-clause-on g c = goes_on c.self.inside.thread c.self.inside.heap c.settle.new.heap _ c.self.view_is
    (kept_then c.self.inside.thread c.self.inside.heap c.collect_by-result.new.heap c.settle.new.heap
    (unseen_kept c.self.inside.thread c.self.inside.heap c.collect_by-result.new.heap
    c.collect_by-result.ensures.stands)
    (stands_kept c.self.inside.thread c.collect_by-result.new.heap c.settle.new.heap c.settle.ensures.stands))
