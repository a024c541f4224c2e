use Rattle.std.proofs.Common.{◌≡◌, ◌<◌, ◌+◌, ℕ, length}
use Rattle.verify.specs.Images.{object_at}
use Rattle.verify.specs.Walks.{spot_at, first_spot}
use Rattle.verify.proofs.spots.filled.Given as goal

abbrev pub invariant-loop-offset : goal.invariant-loop-offset
invariant-loop-offset l = record {
  len : length l.spots.items ≡ l.offset;
  each : (o : ℕ) → o < l.offset → spot_at l.spots.items o ≡ first_spot (object_at l.image (l.base + o));
}
