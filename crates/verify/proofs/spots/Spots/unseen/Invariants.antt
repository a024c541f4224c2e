use Rattle.std.proofs.Common.{◌≡◌, ◌≤◌, ◌-◌, take, length}
use Rattle.std.specs.List.{count_by}
use Rattle.verify.specs.Walks.{is_unseen}
use Rattle.verify.proofs.spots.Spots.unseen.Given as goal

abbrev pub invariant-loop-address : goal.invariant-loop-address
invariant-loop-address l = record {
  count : l.count ≡ count_by is_unseen (take l.from l.self);
  few : l.count ≤ l.from;
}

abbrev pub decreases-loop-address : goal.decreases-loop-address
decreases-loop-address l = length l.self - l.from
