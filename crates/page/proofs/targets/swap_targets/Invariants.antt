use Rattle.page.proofs.Swapping.{TargetsRest}
use Rattle.page.proofs.targets.swap_targets.Given as goal

abbrev pub invariant-loop-index : goal.invariant-loop-index
invariant-loop-index l = TargetsRest l.fn.records l.fn.frames l.fn.targets l.index l.frames l.targets
