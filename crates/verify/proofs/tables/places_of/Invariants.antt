use Rattle.std.proofs.Common.{drop, ◌-◌, length}
use Rattle.verify.proofs.Tabling.{IsTable}
use Rattle.verify.proofs.tables.places_of.Given as goal

abbrev pub invariant-loop-k : goal.invariant-loop-k
invariant-loop-k l = IsTable (drop (length l.side - l.k) l.side) l.words l.places.items
