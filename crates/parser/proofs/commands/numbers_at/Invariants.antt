use Rattle.std.proofs.Common.{◌≡◌, ◌+◌, ◌-◌, length}
use Rattle.parser.specs.Orders.{numbers_at}
use Rattle.parser.proofs.ManyNumbers.{with_firsts}
use Rattle.parser.proofs.commands.numbers_at.Given as goal

abbrev pub decreases-loop-place : goal.decreases-loop-place
decreases-loop-place l = length l.line + 1 - l.place

-- the numbers so far, and those from the place on, are the numbers of the line
abbrev pub invariant-loop-place : goal.invariant-loop-place
invariant-loop-place l = numbers_at l.fn.line l.fn.at ≡ with_firsts l.numbers.items (numbers_at l.fn.line l.place)
