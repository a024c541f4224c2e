use Rattle.std.proofs.Common.{◌≡◌}
use Rattle.markbits.proofs.rows.Rows.trim.Given as goal

abbrev pub invariant-loop-index : goal.invariant-loop-index
invariant-loop-index l = l.self-inside.rows.items ≡ l.fn.self
