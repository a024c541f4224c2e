-- What a part scans is a part of a drain.
use Rattle.std.specs.Prelude.{◌≡◌, ℕ, ◌+◌, false, List, [], ◌++◌, is_some, length}
use Rattle.std.specs.List.{list_any}
use Rattle.model.specs.Holding.{IsHeap}
use Rattle.model.specs.Owning.{IsStore}
use Rattle.model.specs.States.{Reference, HeapState}
use Rattle.drains.specs.Drains.{ObjectsDone}
use Rattle.page.specs.declared.owned.OwnedPage.{OwnedPage}
use Rattle.part_scans.specs.Scans.{Scans}
use Rattle.part_scans.specs.Scenes.{scene_of}
use Rattle.heap.specs.Owning.{put_pages}
use Rattle.waves.specs.Parts.{AreSent, FitsPages, sent_to}

-- A heap with the pages of a part in place of its own, and with what was sent so far taken in, is drained further by
-- the scans of that part: then it has the part's new pages, and what the part has sent is taken in too.
abbrev pub PartDrains : Type 0
PartDrains = (f h : HeapState) (w m first : ℕ) (xs : List (ℕ × ℕ × ℕ)) (ps qs : List OwnedPage)
    (sent after : List Reference) → ObjectsDone f w m (sent_to (put_pages h first ps) sent) → IsStore h.store
    → IsHeap h → list_any is_some h.workers ≡ false → FitsPages h first ps → AreSent h.store.words sent
    → Scans (scene_of h) first xs ps [] qs after
    → ObjectsDone f w (m + length xs) (sent_to (put_pages h first qs) (sent ++ after))
