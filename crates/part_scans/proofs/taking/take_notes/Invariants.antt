use Rattle.std.proofs.Common.{◌≡◌, drop}
use Rattle.part_scans.specs.Scans.{all_taken}
use Rattle.part_scans.proofs.taking.take_notes.Given as goal

abbrev pub invariant-loop-index : goal.invariant-loop-index
invariant-loop-index l =
    all_taken l.scene l.first l.pages (drop l.index l.notes) ≡ all_taken l.scene l.first l.fn.pages l.notes
