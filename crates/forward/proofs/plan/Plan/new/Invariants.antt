use Rattle.std.proofs.Common.{◌≡◌, drop}
use Rattle.model.specs.Plans.{places_from}
use Rattle.forward.specs.Planning.{planned}
use Rattle.forward.proofs.plan.Plan.new.Given as goal

abbrev pub invariant-loop-index : goal.invariant-loop-index
invariant-loop-index l = places_from l.words 0 0 l.sizes ≡ planned l.words l.planning (drop l.index l.sizes)
