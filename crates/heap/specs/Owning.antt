-- Pages whose words and bitmaps threads own for a time.
use Rattle.std.specs.Prelude.{◌≡◌, ℕ, ◌+◌, ◌≤◌, true, false, List, [], ◌∷◌, get_or, length, slice_set}
use Rattle.model.specs.States.{Reference, HeapState}
use Rattle.model.specs.Stores.{StoreState}
use Rattle.page.specs.Owned.{SwappedParts, lent_frame, put_frame}
use Rattle.page.specs.declared.owned.OwnedPage.{OwnedPage}
use Rattle.page.specs.declared.owned.Part.{Part}
use Rattle.part_scans.specs.Scans.{PartScanned}
use Rattle.part_scans.specs.Scenes.{SceneState, scene_of}

-- the heap in which the page of a record's index has the words and the bitmaps of an owned page
abbrev pub put_page : HeapState → ℕ → OwnedPage → HeapState
put_page h i p = record h {
  store = record h.store { frames = put_frame h.store.pages i h.store.frames p.frame };
  mark = slice_set h.mark i p.marked;
  todo = slice_set h.todo i p.grey;
}

-- the same of several pages, from that of a record's index on
abbrev pub put_pages : HeapState → ℕ → List OwnedPage → HeapState
put_pages h i [] = h
put_pages h i (p ∷ ps) = put_pages (put_page h i p) (i + 1) ps

-- and of the pages of parts
abbrev pub put_parts : HeapState → List Part → HeapState
put_parts h [] = h
put_parts h (p ∷ ps) = put_parts (put_pages h p.first p.pages.items) ps

-- the page of a record's index, as a heap has it
abbrev pub page_of : HeapState → ℕ → OwnedPage
page_of h i = record {
  frame = lent_frame h.store.pages i h.store.frames [];
  marked = get_or h.mark i [];
  grey = get_or h.todo i [];
}

-- these pages, from that of a record's index on, are as a heap has them
abbrev pub ArePagesOf : HeapState → ℕ → List OwnedPage → Type 0
ArePagesOf h i [] = Unit {0}
ArePagesOf h i (p ∷ ps) = (p ≡ page_of h i) × ArePagesOf h (i + 1) ps

-- pages without words and bits
abbrev pub AreBlankPages : List OwnedPage → Type 0
AreBlankPages [] = Unit {0}
AreBlankPages (p ∷ ps) = (p ≡ record { frame = []; marked = []; grey = [] }) × AreBlankPages ps

abbrev pub AreBlank : List Part → Type 0
AreBlank [] = Unit {0}
AreBlank (p ∷ ps) = AreBlankPages p.pages.items × AreBlank ps

-- pages without words
abbrev pub AreWordlessPages : List OwnedPage → Type 0
AreWordlessPages [] = Unit {0}
AreWordlessPages (p ∷ ps) = (p.frame ≡ []) × AreWordlessPages ps

abbrev pub AreWordless : List Part → Type 0
AreWordless [] = Unit {0}
AreWordless (p ∷ ps) = AreWordlessPages p.pages.items × AreWordless ps

-- the pages of each part have records after those of the parts before, from an index on, of n records in all
abbrev pub ArePlaced : ℕ → ℕ → List Part → Type 0
ArePlaced n low [] = low ≤ n
ArePlaced n low (p ∷ ps) = (low ≤ p.first) × ArePlaced n (p.first + length p.pages.items) ps

-- parts got their pages as a heap has them; what else they have stays
abbrev pub AreLent : HeapState → List Part → List Part → Type 0
AreLent h [] [] = Unit {0}
AreLent h [] (l ∷ ls) = true ≡ false
AreLent h (p ∷ ps) [] = true ≡ false
AreLent h (p ∷ ps) (l ∷ ls) =
    (l ≡ record p { pages = l.pages }) × (length l.pages.items ≡ length p.pages.items)
    × ArePagesOf h p.first l.pages.items × AreLent h ps ls

-- notes were taken in on the pages of each part, and then objects of it scanned, at most this number
abbrev pub AllScanned : SceneState → List Reference → ℕ → List Part → List Part → Type 0
AllScanned s notes most [] [] = Unit {0}
AllScanned s notes most [] (q ∷ qs) = true ≡ false
AllScanned s notes most (p ∷ ps) [] = true ≡ false
AllScanned s notes most (p ∷ ps) (q ∷ qs) =
    PartScanned s notes p q × (q.scanned ≤ most) × AllScanned s notes most ps qs

-- parts have what others have, but for pages
abbrev pub AreBack : List Part → List Part → Type 0
AreBack [] [] = Unit {0}
AreBack [] (q ∷ qs) = true ≡ false
AreBack (p ∷ ps) [] = true ≡ false
AreBack (p ∷ ps) (q ∷ qs) = (q ≡ record p { pages = q.pages }) × AreBack ps qs

-- notes were taken in and objects of parts scanned, which had the words of their pages meanwhile
pub record ScansStore (s : SceneState) (notes : List Reference) (most : ℕ) (t : StoreState) (parts : List Part)
    (u : StoreState) (after : List Part) : Type 0 where
  pub between : List (List ℕ)
  pub lent : List Part
  pub left : List Part
  pub take : SwappedParts t.pages t.frames parts between lent
  pub scanned : AllScanned s notes most lent left
  pub give : SwappedParts t.pages between left u.frames after
  pub same : u ≡ record t { frames = u.frames }

-- notes were taken in on the pages of parts, and objects of the parts scanned, of each at most this number; the heap
-- has the words and the bitmaps that result
pub record ScansParts (h : HeapState) (notes : List Reference) (most : ℕ) (parts : List Part) (g : HeapState)
    (after : List Part) : Type 0 where
  pub lent : List Part
  pub left : List Part
  pub pages : AreLent h parts lent
  pub scanned : AllScanned (scene_of h) notes most lent left
  pub heap : g ≡ put_parts h left
  pub back : AreBack left after
