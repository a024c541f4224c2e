use Rattle.std.proofs.Common.{◌≡◌, ◌+◌, length}
use Rattle.managed.proofs.ManyData.{ReadsBelow}
use Rattle.managed.proofs.data.read_by_words.Given as goal

abbrev pub invariant-loop-index : goal.invariant-loop-index
invariant-loop-index l =
    (length l.values ≡ length l.fn.values) × ReadsBelow l.heap.store (l.address + l.ahead) l.index l.values
