use Rattle.std.proofs.Common.{◌≡◌, drop}
use Rattle.cycle.specs.Rising.{rises_above}
use Rattle.cycle.proofs.pages.rises.Given as goal

-- the remaining numbers rise above the last one exactly if all rise above 0
abbrev pub invariant-loop-page : goal.invariant-loop-page
invariant-loop-page l = rises_above l.last (drop l.page-index l.pages) ≡ rises_above 0 l.pages
