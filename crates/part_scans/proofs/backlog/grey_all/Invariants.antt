use Rattle.std.proofs.Common.{◌≡◌, drop}
use Rattle.part_scans.specs.Waiting.{all_grey, places_of}
use Rattle.part_scans.proofs.backlog.grey_all.Given as goal

abbrev pub invariant-loop-index : goal.invariant-loop-index
invariant-loop-index l = all_grey l.pages (places_of l.scene l.first (drop l.index l.waiting.items))
    ≡ all_grey l.fn.pages (places_of l.scene l.first l.fn.waiting.items)
