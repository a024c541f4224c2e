use Rattle.std.proofs.Common.{◌≤◌, ◌+◌, ◌-◌, ◌++◌, ◌∷◌, ℕ}
use Rattle.std.specs.Vec.{vec_len, vec_capacity}
use Rattle.part_scans.specs.Scans.{mark_words, send_words}
use Rattle.part_scans.specs.Waiting.{AreWaiting, all_grey, places_of}
use Rattle.part_scans.proofs.Marked.{WordsWait}
use Rattle.part_scans.proofs.objects.mark_words.Given as goal

abbrev pub invariant-loop-number : goal.invariant-loop-number
invariant-loop-number l =
    (vec_len l.sent + (l.count - l.number) ≤ vec_capacity l.sent)
    × ((x : ℕ × ℕ) → AreWaiting l.fn.pages (x ∷ places_of l.scene l.first l.fn.waiting.items)
    → WordsWait l.scene l.first l.index (l.offset + l.number) (l.count - l.number) l.pages l.waiting.items l.sent.items
    (mark_words l.scene l.first (all_grey l.fn.pages (x ∷ places_of l.scene l.first l.fn.waiting.items)) l.index
    l.offset l.count)
    (l.fn.sent.items ++ send_words l.scene l.first
    (all_grey l.fn.pages (x ∷ places_of l.scene l.first l.fn.waiting.items)) l.index l.offset l.count) x)
