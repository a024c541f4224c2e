use Rattle.std.proofs.Common.{◌≡◌, ◌+◌, length, reverse}
use Rattle.drains.specs.Waiting.{all_noted, AreWaiting}
use Rattle.drains.proofs.backlog.note_all.Given as goal

abbrev pub invariant-loop : goal.invariant-loop
invariant-loop l =
    (all_noted l.heap (reverse l.waiting.items) ≡ all_noted l.fn.heap (reverse l.fn.waiting.items))
    × AreWaiting l.heap.mark l.heap.store.words (reverse l.waiting.items)
    × (length l.waiting.items + l.counter ≡ length l.fn.waiting.items)
