use Rattle.std.proofs.Common.{subst}
use Rattle.managed.specs.Managing.{Promises}
use Rattle.managed.proofs.Running.{promises}
use Rattle.managed.proofs.managed.ManagedHeap.law.Goals as goal

pub returns : goal.returns
returns c = subst Promises c.self.view_is (promises c.self.inside.heap c.law.ensures.first c.self.invariant)
