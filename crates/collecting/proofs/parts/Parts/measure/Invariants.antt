use Rattle.collecting.proofs.Staged.{MeasuredTo}
use Rattle.collecting.proofs.parts.Parts.measure.Given as goal

-- `_done` pages were measured
abbrev pub invariant-loop-done : goal.invariant-loop-done
invariant-loop-done l = MeasuredTo l.heap l.percent l.most l._done l.fn.self l.self
