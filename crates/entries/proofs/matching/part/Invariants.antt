use Rattle.std.proofs.Common.{◌≡◌, take}
use Rattle.entries.specs.Parts.{part_of}
use Rattle.entries.proofs.matching.part.Given as goal

abbrev pub invariant-loop-index : goal.invariant-loop-index
invariant-loop-index l = l.list.entries ≡ part_of l.actor (take l.index l.history.entries)
