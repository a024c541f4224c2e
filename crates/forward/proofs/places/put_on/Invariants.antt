use Rattle.std.proofs.Common.{◌≡◌, ◌++◌, drop, map, take}
use Rattle.forward.specs.Bases.{run_on}
use Rattle.forward.proofs.places.put_on.Given as goal

abbrev pub invariant-loop-index : goal.invariant-loop-index
invariant-loop-index l =
    l.runs.items ≡ map (run_on l.words l.fn.targets) (take l.index l.fn.runs.items) ++ drop l.index l.fn.runs.items
