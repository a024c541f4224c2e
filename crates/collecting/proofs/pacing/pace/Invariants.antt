use Rattle.collecting.specs.Counting.{CountedBy}
use Rattle.collecting.specs.Pacing.{PacedBy}
use Rattle.collecting.proofs.pacing.pace.Given as goal

-- `done` parts were done and counted
abbrev pub invariant-loop-done : goal.invariant-loop-done
invariant-loop-done l =
    PacedBy l.done l.all l.policy.free l.policy.percent l.budget l.fn.parts l.fn.heap l.parts l.heap
    × CountedBy l.done l.all l.policy.free l.policy.percent l.budget l.fn.parts l.fn.heap l.fn.counters l.parts l.heap
    l.counters
