use Rattle.std.proofs.Common.{◌≡◌, ◌≤◌, ◌*◌, take}
use Rattle.std.specs.List.{sum_by}
use Rattle.markbits.proofs.ManyRows.{set_bits}
use Rattle.markbits.proofs.rows.Rows.count.Given as goal

abbrev pub invariant-loop-index : goal.invariant-loop-index
invariant-loop-index l =
    (l.total ≡ sum_by set_bits (take l.index l.self-inside.rows.items)) × (l.total ≤ l.index * 4294967296)
