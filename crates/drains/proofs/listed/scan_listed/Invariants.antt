use Rattle.std.proofs.Common.{◌≡◌, ◌≤◌, []}
use Rattle.drains.specs.Drains.{ObjectsDone}
use Rattle.drains.proofs.listed.scan_listed.Given as goal

abbrev pub invariant-loop-index : goal.invariant-loop-index
invariant-loop-index l = ObjectsDone l.fn.heap l.worker l.done l.heap × (l.done ≤ l.index) × (l.waiting.items ≡ [])
