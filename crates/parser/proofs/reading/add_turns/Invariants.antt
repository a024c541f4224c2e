use Rattle.std.proofs.Common.{◌≡◌, ◌++◌}
use Rattle.std.specs.List.{repeat}
use Rattle.parser.proofs.reading.add_turns.Given as goal

-- the block is repeated as often as the loop has run
abbrev pub invariant-loop : goal.invariant-loop
invariant-loop l = l.commands.items ≡ l.fn.commands.items ++ repeat l.counter l.body
