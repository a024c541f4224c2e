use Rattle.std.proofs.Common.{◌≡◌, drop}
use Rattle.forward.specs.Bases.{base_of}
use Rattle.forward.proofs.places.base_of.Given as goal

abbrev pub invariant-loop-index : goal.invariant-loop-index
invariant-loop-index l =
    base_of l.base (drop l.index l.fn.more.items) l.fn.number ≡ base_of l.fn.base l.fn.more.items l.fn.number
