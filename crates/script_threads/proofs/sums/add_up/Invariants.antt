use Rattle.std.proofs.Common.{◌≡◌, ◌≤◌, ◌*◌, ◌^◌, take}
use Rattle.script_threads.specs.Settled.{births_in, data_in}
use Rattle.script_threads.proofs.sums.add_up.Given as goal

-- the sums over the entries so far: each adds at most 1 birth, and less than 2^64 of data
abbrev pub invariant-loop-index : goal.invariant-loop-index
invariant-loop-index l = record {
  births : l.births ≡ births_in (take l.index l.list.entries);
  total : l.total ≡ data_in (take l.index l.list.entries);
  few : l.births ≤ l.index;
  small : l.total ≤ l.index * 2 ^ 64;
}
