use Rattle.std.proofs.Common.{◌≡◌, ◌-◌, false}
use Rattle.cycle.specs.Loads.{behind, trap_load}
use Rattle.script.proofs.check.steps.check_traps.Given as goal

-- the remaining traps lead to the same
abbrev pub invariant-loop : goal.invariant-loop
invariant-loop l = behind l.replies.items (trap_load (3 - l.counter) l.due l.book l.actor)
    ≡ behind l.fn.replies.items (trap_load 3 false l.fn.book l.actor)
