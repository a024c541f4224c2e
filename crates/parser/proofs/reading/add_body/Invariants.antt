use Rattle.std.proofs.Common.{◌≡◌, ◌++◌, take}
use Rattle.parser.proofs.reading.add_body.Given as goal

-- the block's commands so far are appended to the others
abbrev pub invariant-loop-command : goal.invariant-loop-command
invariant-loop-command l = l.commands.items ≡ l.fn.commands.items ++ take l.command-index l.body
