use Rattle.entries.specs.Passing.{HasPartTo}
use Rattle.entries.proofs.matching.is_part.Given as goal

abbrev pub invariant-loop-index : goal.invariant-loop-index
invariant-loop-index l = HasPartTo l.list.entries l.place l.actor l.history.entries l.index
