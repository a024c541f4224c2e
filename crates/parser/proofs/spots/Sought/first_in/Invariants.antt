use Rattle.std.proofs.Common.{◌≡◌, ◌≤◌, ◌+◌, length}
use Rattle.std.specs.List.{slice_split}
use Rattle.parser.specs.Reading.{newline}
use Rattle.parser.specs.Spots.{first_spot}
use Rattle.parser.proofs.FirstSpots.{first_from}
use Rattle.parser.proofs.spots.Sought.first_in.Given as goal

abbrev pub decreases-loop-line : goal.decreases-loop-line
decreases-loop-line l = length l.rest

-- the first of the remaining lines is the first of all
abbrev pub invariant-loop-line : goal.invariant-loop-line
invariant-loop-line l = record {
  rest : first_from l.self l.number (slice_split newline l.rest) ≡ first_spot l.self (slice_split newline l.fn.bytes);
  count : l.number + length l.rest ≤ 1 + length l.fn.bytes;
}
