use Rattle.std.proofs.Common.{◌-◌}
use Rattle.cycle.specs.Loads.{behind}
use Rattle.cycle.specs.Drains.{drain_within, verdict}
use Rattle.cycle.proofs.WholeDrains.{IsLeft}
use Rattle.script.proofs.check.steps.check_scans.Given as goal

-- the remaining steps lead to the same
abbrev pub invariant-loop : goal.invariant-loop
invariant-loop l = IsLeft l.replies.items (l.most - l.counter) l.book l.worker
    (behind l.fn.replies.items (drain_within l.most l.fn.book l.worker))
    (verdict (drain_within l.most l.fn.book l.worker).replies)
