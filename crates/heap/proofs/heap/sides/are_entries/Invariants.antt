use Rattle.std.proofs.Common.{◌≡◌, drop}
use Rattle.heap.specs.Entries.{are_entries}
use Rattle.heap.proofs.heap.sides.are_entries.Given as goal

-- the entries that are left meet their conditions exactly if all do
abbrev pub invariant-loop-index : goal.invariant-loop-index
invariant-loop-index l =
    are_entries l.fn.heap.config l.low (drop l.index l.fn.side) ≡ are_entries l.fn.heap.config 0 l.fn.side
