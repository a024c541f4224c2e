-- Bitmaps of pages that threads own for a time.
use Rattle.std.specs.Prelude.{◌≡◌, ℕ, ◌+◌, Bool, true, false, List, [], ◌∷◌, get_or, slice_set}
use Rattle.page.specs.declared.owned.OwnedPage.{OwnedPage}
use Rattle.page.specs.declared.owned.Part.{Part}

-- the bitmaps of pages, from that of an index on, were swapped with those of owned pages, one after another
abbrev pub SwappedRows : ℕ → List (List Bool) → List (List Bool) → List OwnedPage → List (List Bool)
    → List (List Bool) → List OwnedPage → Type 0
SwappedRows i mark todo [] marked grey [] = (marked ≡ mark) × (grey ≡ todo)
SwappedRows i mark todo [] marked grey (q ∷ qs) = true ≡ false
SwappedRows i mark todo (p ∷ ps) marked grey [] = true ≡ false
SwappedRows i mark todo (p ∷ ps) marked grey (q ∷ qs) =
    (q ≡ record p { marked = get_or mark i p.marked; grey = get_or todo i p.grey })
    × SwappedRows (i + 1) (slice_set mark i p.marked) (slice_set todo i p.grey) ps marked grey qs

-- those of the pages of parts were swapped so, one part after another; what else parts have stays
abbrev pub SwappedRowsOf : List (List Bool) → List (List Bool) → List Part → List (List Bool) → List (List Bool)
    → List Part → Type 0
SwappedRowsOf mark todo [] marked grey [] = (marked ≡ mark) × (grey ≡ todo)
SwappedRowsOf mark todo [] marked grey (q ∷ qs) = true ≡ false
SwappedRowsOf mark todo (p ∷ ps) marked grey [] = true ≡ false
SwappedRowsOf mark todo (p ∷ ps) marked grey (q ∷ qs) =
    (m : List (List Bool)) × (g : List (List Bool)) × SwappedRows p.first mark todo p.pages.items m g q.pages.items
    × (q ≡ record p { pages = q.pages }) × SwappedRowsOf m g ps marked grey qs
