use Rattle.std.proofs.Common.{◌-◌}
use Rattle.managed.specs.Goings.{Goes, IsInBarrier, TrapsLeft}
use Rattle.managed.proofs.managed.ManagedHeap.end_by_traps.Given as goal

-- traps have led here, and one of those that are left is clear, if none is rejected
abbrev pub invariant-loop : goal.invariant-loop
invariant-loop l = record {
  goes : Goes (IsInBarrier l.thread) l.fn.self l.self;
  left : TrapsLeft (3 - l.counter) l.self l.thread;
}
