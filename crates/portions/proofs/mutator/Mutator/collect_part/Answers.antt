use Rattle.std.proofs.Common.{subst, sym}
use Rattle.managed.specs.Collecting.{StandsUnseen}
use Rattle.portions.specs.Apart.{IsStill}
use Rattle.portions.specs.Portions.{MutatorState}
use Rattle.portions.proofs.Collected.{collects_alone, never_stalls, none_waits}
use Rattle.portions.proofs.Others.{same_unseen, unseen_then}
use Rattle.portions.proofs.mutator.Mutator.collect_part.Goals as goal

pub settle-requires : goal.settle-requires
settle-requires c = collects_alone c.self.inside.thread c.self.inside.heap c.collect_some-result.new.self
    c.collect_some-result.ensures.goes c.self.invariant.runs

pub invariant_of-self : goal.invariant_of-self
invariant_of-self c = c.settle.ensures.apart

pub returns-clause-part : goal.returns-clause-part
returns-clause-part c = record {
  before = c.self.inside.heap;
  still = subst (λ (m : MutatorState). IsStill m.heap) (sym c.self.view_is) c.leave.ensures.still;
  ends = (
    c.collect_some-result.new.self,
    (c.collect_some-result.ensures.ends, c.collect_some-result.ensures.parts),
    c.settle.ensures.goes,
  );
  holds = record {
    apart = c.settle.ensures.apart;
    stalls = never_stalls c.settle.new.heap c.self.inside.thread c.settle.ensures.apart.phase;
    crossed = none_waits c.settle.new.heap c.settle.ensures.apart.phase c.law.ensures;
    promises = c.law.ensures;
  };
}

pub returns-clause-same : goal.returns-clause-same
returns-clause-same c = unseen_then c.args.self.now.heap c.self.inside.heap c.settle.new.heap
    (subst (λ (m : MutatorState). StandsUnseen c.args.self.now.heap m.heap) (sym c.self.view_is) c.leave.ensures.same)
    (unseen_then c.self.inside.heap c.collect_some-result.new.self c.settle.new.heap
    c.collect_some-result.ensures.stands
    (same_unseen c.collect_some-result.new.self c.settle.new.heap c.settle.ensures.stands))
