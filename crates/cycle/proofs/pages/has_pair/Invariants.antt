use Rattle.std.proofs.Common.{◌≡◌, drop}
use Rattle.model.specs.Protections.{has_twice}
use Rattle.cycle.proofs.pages.has_pair.Given as goal

-- no page before this index is in the list twice
abbrev pub invariant-loop-index : goal.invariant-loop-index
invariant-loop-index l = has_twice (drop l.index l.pages) ≡ has_twice l.pages
