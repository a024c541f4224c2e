use Rattle.std.proofs.Common.{◌≤◌}
use Rattle.part_scans.specs.Scans.{AreScanned}
use Rattle.part_scans.specs.Waiting.{AreWaiting, all_grey, places_of}
use Rattle.part_scans.proofs.parts.scan_pages.Given as goal

abbrev pub invariant-loop-turn : goal.invariant-loop-turn
invariant-loop-turn l =
    (l.done ≤ l._turn) × AreWaiting l.pages (places_of l.scene l.first l.waiting.items)
    × AreScanned l.scene l.first l.done l.fn.pages l.fn.sent.items
    (all_grey l.pages (places_of l.scene l.first l.waiting.items)) l.sent.items
