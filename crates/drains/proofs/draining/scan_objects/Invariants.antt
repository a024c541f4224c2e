use Rattle.std.proofs.Common.{◌≡◌, reverse}
use Rattle.drains.specs.Drains.{ObjectsDone}
use Rattle.drains.specs.Waiting.{all_noted, AreWaiting, IsAlone}
use Rattle.drains.proofs.draining.scan_objects.Given as goal

abbrev pub invariant-loop-done : goal.invariant-loop-done
invariant-loop-done l =
    ObjectsDone l.fn.heap l.worker l.done (all_noted l.heap (reverse l.waiting.items))
    × AreWaiting l.heap.mark l.heap.store.words (reverse l.waiting.items)
    × IsAlone l.alone l.heap.workers
    × (l.done ≡ 0 → l.references ≡ 0)
