use Rattle.sharing.specs.Settling.{IsFirstNot}
use Rattle.sharing.proofs.Settles.{Looked}
use Rattle.sharing.proofs.settling.first_lacking.Given as goal

abbrev pub invariant-loop-index : goal.invariant-loop-index
invariant-loop-index l = IsFirstNot (Looked l.history.entries l.seats l.index) l.found
