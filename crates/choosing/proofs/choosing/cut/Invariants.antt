use Rattle.std.proofs.Common.{◌≡◌, map}
use Rattle.choosing.specs.Choices.{page_of, words_on}
use Rattle.choosing.proofs.Cuts.{IsBeginning}
use Rattle.choosing.proofs.choosing.cut.Given as goal

abbrev pub invariant-loop-index : goal.invariant-loop-index
invariant-loop-index l = IsBeginning l.heap (map page_of l.pages) l.index l.chosen.items l.packing
    × (l.words ≡ words_on l.heap l.chosen.items)
