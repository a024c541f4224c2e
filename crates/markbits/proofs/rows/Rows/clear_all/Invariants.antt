use Rattle.std.proofs.Common.{◌≡◌, length, map, take, drop}
use Rattle.sequences.specs.Bits.{blank_row}
use Rattle.markbits.proofs.rows.Rows.clear_all.Given as goal

abbrev pub invariant-loop-index : goal.invariant-loop-index
invariant-loop-index l =
    (take l.index l.self-inside.rows.items ≡ map blank_row (take l.index l.fn.self))
    × (drop l.index l.self-inside.rows.items ≡ drop l.index l.fn.self)
    × (length l.self-inside.rows.items ≡ length l.fn.self)
