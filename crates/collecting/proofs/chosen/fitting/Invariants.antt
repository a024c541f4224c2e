use Rattle.std.proofs.Common.{map}
use Rattle.choosing.specs.Choices.{page_of}
use Rattle.choosing.proofs.Cuts.{IsBeginning}
use Rattle.collecting.proofs.chosen.fitting.Given as goal

-- there is space for the pages so far
abbrev pub invariant-loop-index : goal.invariant-loop-index
invariant-loop-index l = IsBeginning l.heap (map page_of l.pages) l.index l.chosen.items l.packing
