use Rattle.std.proofs.Common.{◌≡◌, drop}
use Rattle.page.proofs.Swapping.{PartsRest}
use Rattle.page.proofs.owned.swap_parts.Given as goal

abbrev pub invariant-loop-index : goal.invariant-loop-index
invariant-loop-index l =
    (drop l.index l.parts ≡ drop l.index l.fn.parts)
    × PartsRest l.fn.records l.fn.frames l.fn.parts l.index l.frames l.parts
