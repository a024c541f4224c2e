-- What was measured of all pages: which are sparse, their live objects, and all live words.
use Rattle.std.specs.Prelude.{◌≡◌, ℕ, Option, IfSome}
use Rattle.std.specs.List.{All}
use Rattle.model.specs.States.{HeapState}
use Rattle.relocate.specs.Drafts.{AreLiveOn}
use Rattle.choosing.specs.Choices.{all_words, sparse_pages}
use Rattle.choosing.specs.declared.sparse.Found.{Found}
use Rattle.choosing.specs.declared.sparse.PageObjects.{PageObjects}

-- they are the live objects of a page of the heap
abbrev pub IsOnPage : HeapState → PageObjects → Type 0
IsOnPage h p = AreLiveOn h p.page p.objects

-- all sparse pages were found, in the order of their numbers, live objects of pages, and all live words
pub record IsFound (h : HeapState) (percent : ℕ) (found : Found) : Type 0 where
  pub pages : found.pages.items ≡ sparse_pages h percent
  pub words : found.live_words ≡ all_words h
  pub objects : All (IsOnPage h) found.objects.items

-- if a part was measured, live objects of pages were found in it
abbrev pub IfMeasured : HeapState → Option Found → Type 0
IfMeasured h part = IfSome part (λ f. All (IsOnPage h) f.objects.items)
