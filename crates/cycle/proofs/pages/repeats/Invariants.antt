use Rattle.std.proofs.Common.{◌≡◌, drop, length}
use Rattle.model.specs.Protections.{has_twice}
use Rattle.cycle.proofs.Seen.{repeats}
use Rattle.cycle.proofs.pages.repeats.Given as goal

-- the list has a page twice exactly if one of the remaining pages was seen, or is there twice
abbrev pub invariant-loop-index : goal.invariant-loop-index
invariant-loop-index l =
    (has_twice l.fn.pages ≡ repeats l.seen (drop l.index l.fn.pages)) × (length l.seen ≡ length l.fn.seen)
