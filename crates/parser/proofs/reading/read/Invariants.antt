use Rattle.std.proofs.Common.{◌≡◌, ◌≤◌, ◌+◌, length}
use Rattle.std.specs.List.{slice_split}
use Rattle.parser.specs.Reading.{lines_in, script_in, newline}
use Rattle.parser.proofs.reading.read.Given as goal

abbrev pub decreases-loop-line : goal.decreases-loop-line
decreases-loop-line l = length l.rest

-- the remaining lines lead to the same result
abbrev pub invariant-loop-line : goal.invariant-loop-line
invariant-loop-line l = record {
  rest : lines_in l.number l.reading (slice_split newline l.rest) ≡ script_in l.fn.bytes;
  count : l.number + length l.rest ≤ 1 + length l.fn.bytes;
}
