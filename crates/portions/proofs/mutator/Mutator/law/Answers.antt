use Rattle.std.proofs.Common.{subst}
use Rattle.portions.specs.Portions.{HoldsInPortion}
use Rattle.portions.proofs.Collected.{never_stalls, none_waits}
use Rattle.portions.proofs.mutator.Mutator.law.Goals as goal

pub returns : goal.returns
returns c = subst HoldsInPortion c.self.view_is (record {
  apart = c.self.invariant;
  stalls = never_stalls c.self.inside.heap c.self.inside.thread c.self.invariant.phase;
  crossed = none_waits c.self.inside.heap c.self.invariant.phase c.law.ensures;
  promises = c.law.ensures;
})
