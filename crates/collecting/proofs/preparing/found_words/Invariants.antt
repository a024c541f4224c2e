use Rattle.std.proofs.Common.{◌≡◌, take}
use Rattle.collecting.specs.Stages.{found_words}
use Rattle.collecting.proofs.preparing.found_words.Given as goal

-- the words of the first `index` pages are added up
abbrev pub invariant-loop-index : goal.invariant-loop-index
invariant-loop-index l = l.total ≡ found_words (take l.index l.pages)
