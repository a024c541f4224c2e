use Rattle.page_rows.proofs.SwappedStarts.{StartsRest}
use Rattle.page_rows.proofs.starting.swap_starts.Given as goal

abbrev pub invariant-loop-index : goal.invariant-loop-index
invariant-loop-index l = StartsRest l.fn.starts l.fn.targets l.index l.starts l.targets
