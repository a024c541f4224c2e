use Rattle.std.proofs.Common.{◌≡◌, drop}
use Rattle.page_rows.proofs.SwappedRows.{PartRowsRest}
use Rattle.page_rows.proofs.owning.swap_all_rows.Given as goal

abbrev pub invariant-loop-index : goal.invariant-loop-index
invariant-loop-index l =
    (drop l.index l.parts ≡ drop l.index l.fn.parts)
    × PartRowsRest l.fn.mark l.fn.todo l.fn.parts l.index l.mark l.todo l.parts
