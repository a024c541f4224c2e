use Rattle.verify.proofs.Searching.{IsRisingFrom}
use Rattle.verify.proofs.tables.is_rising.Given as goal

abbrev pub invariant-loop-k : goal.invariant-loop-k
invariant-loop-k l = IsRisingFrom l.words l.side l.k l.above
