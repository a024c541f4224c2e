-- Parts of a heap's pages, of one size.
use Rattle.std.specs.Prelude.{ℕ, ◌+◌, ◌*◌, ◌<◌, List, Option, None, length, min, get_or, IfSome}
use Rattle.model.specs.States.{HeapState}
use Rattle.choosing.specs.Choices.{AreOf}
use Rattle.choosing.specs.declared.sparse.Found.{Found}

-- the number of the last page of the first `parts` parts, of `size` pages each, of a heap of that number of pages
abbrev pub end_of : ℕ → ℕ → ℕ → ℕ
end_of pages size parts = min (parts * size) pages

-- each part was measured, unless there is none
abbrev pub ArePartsOf : HeapState → ℕ → ℕ → List (Option Found) → Type 0
ArePartsOf h percent size found = (i : ℕ) → i < length found
    → IfSome (get_or found i None) (λ f. AreOf h percent (end_of h.store.count size i) (end_of h.store.count size (i + 1))
    f.pages.items f.live_words)
