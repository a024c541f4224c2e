-- The heap with the pages of a part, and what parts have sent.
use Rattle.std.specs.Prelude.{◌≡◌, ℕ, ◌+◌, ◌/◌, ◌<◌, ◌≤◌, true, false, List, [], ◌∷◌, Some, None, length, get_or}
use Rattle.waves.specs.Waves.{applied}
use Rattle.heap.specs.Owning.{AreBlank, ArePlaced, page_of}
use Rattle.model.specs.States.{Reference, HeapState}
use Rattle.page.specs.declared.owned.OwnedPage.{OwnedPage}
use Rattle.page.specs.declared.owned.Part.{Part}

-- the heap after all that was sent was taken in
abbrev pub sent_to : HeapState → List Reference → HeapState
sent_to h sent = applied h [] sent

-- each is a reference, without its bit, to an object on a page that has a number
abbrev pub AreSent : ℕ → List Reference → Type 0
AreSent w [] = Unit {0}
AreSent w (None ∷ ns) = true ≡ false
AreSent w (Some (t, true) ∷ ns) = true ≡ false
AreSent w (Some (t, false) ∷ ns) = (0 < t / w) × AreSent w ns

-- a page has as many words and bits as that of a record's index has in a heap
pub record FitsPage (h : HeapState) (i : ℕ) (p : OwnedPage) : Type 0 where
  pub there : i < length h.store.pages
  pub frame : length p.frame ≡ length (page_of h i).frame
  pub marked : length p.marked ≡ length (page_of h i).marked
  pub grey : length p.grey ≡ length (page_of h i).grey

-- so have several pages, from that of a record's index on
abbrev pub FitsPages : HeapState → ℕ → List OwnedPage → Type 0
FitsPages h i [] = Unit {0}
FitsPages h i (p ∷ ps) = FitsPage h i p × FitsPages h (i + 1) ps

-- how many objects were scanned in parts
abbrev pub all_scanned_in : List Part → ℕ
all_scanned_in [] = 0
all_scanned_in (p ∷ ps) = p.scanned + all_scanned_in ps

-- parts have sent nothing
abbrev pub AreUnsent : List Part → Type 0
AreUnsent [] = Unit {0}
AreUnsent (p ∷ ps) = (p.sent.items ≡ []) × AreUnsent ps

-- of each part at most this number of objects were scanned
abbrev pub AreFew : ℕ → List Part → Type 0
AreFew most [] = Unit {0}
AreFew most (p ∷ ps) = (p.scanned ≤ most) × AreFew most ps

-- the pages of parts have all records from one up to n, those of each part after those of the part before
abbrev pub AreJoined : ℕ → ℕ → List Part → Type 0
AreJoined n low [] = low ≡ n
AreJoined n low (p ∷ ps) = (p.first ≡ low) × AreJoined n (p.first + length p.pages.items) ps

-- no page from that of a record's index on has a bitmap
abbrev pub AreBare : HeapState → ℕ → Type 0
AreBare h n = (j : ℕ) → n ≤ j → (get_or h.mark j [] ≡ []) × (get_or h.todo j [] ≡ [])

-- parts of blank pages that have sent nothing, and take the place of some of the first n pages
pub record AreNew (n : ℕ) (ps : List Part) : Type 0 where
  pub blank : AreBlank ps
  pub placed : ArePlaced n 0 ps
  pub unsent : AreUnsent ps
