use Rattle.std.proofs.Common.{subst, sym}
use Rattle.model.specs.Plain.{plain_start}
use Rattle.model.specs.States.{HeapState}
use Rattle.refinement.specs.Standing.{Holds}
use Rattle.managed.proofs.Running.{managed_first}
use Rattle.managed.proofs.managed.ManagedHeap.new.Goals as goal

pub invariant_of-result : goal.invariant_of-result
invariant_of-result c = managed_first c.args.config c.in-Ok.heap c.in-Ok.ensures.1

pub returns-in-Ok : goal.returns-in-Ok
returns-in-Ok c = (
  c.in-Ok.ensures.0,
  c.in-Ok.ensures.1,
  subst (λ (h : HeapState). Holds h (plain_start c.args.config) (plain_start c.args.config)) (sym c.in-Ok.ensures.1)
      (c.law.ensures.first c.args.config),
)
