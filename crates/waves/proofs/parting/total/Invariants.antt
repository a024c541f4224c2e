use Rattle.std.proofs.Common.{◌≡◌, ◌+◌, ◌*◌, ◌≤◌, drop}
use Rattle.waves.specs.Parts.{all_scanned_in}
use Rattle.waves.proofs.parting.total.Given as goal

abbrev pub invariant-loop-index : goal.invariant-loop-index
invariant-loop-index l =
    (l.done + all_scanned_in (drop l.index l.parts) ≡ all_scanned_in l.parts) × (l.done ≤ l.index * l.each)
