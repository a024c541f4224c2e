use Rattle.std.proofs.Common.{◌≡◌, take}
use Rattle.model.specs.Cycles.{rows_after_mark}
use Rattle.page_rows.proofs.ending.give_up_indexed_rows.Given as goal

abbrev pub invariant-loop-index : goal.invariant-loop-index
invariant-loop-index l = l.rows ≡ rows_after_mark (take l.index l.fn.store.pages) l.fn.rows
