use Rattle.std.proofs.Common.{◌≡◌, ◌+◌}
use Rattle.script.proofs.check.schedule.check_commands.Given as goal

abbrev pub invariant-loop-command : goal.invariant-loop-command
invariant-loop-command g l = l.number ≡ l.command-index + 1
