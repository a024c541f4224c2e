-- The relocation set: which pages are chosen to be emptied.
use Rattle.std.specs.Prelude.{◌≡◌, ◌≤◌, ◌<◌, ℕ, zero, suc, ◌+◌, ◌*◌, ◌&&◌, not, Bool, true, false, List, [], ◌∷◌}
use Rattle.std.specs.Prelude.{◌++◌, length, map, min, take, nat_le}
use Rattle.std.specs.Prelude.{Option, Some, None, if◌then◌else◌, IsPermutation, IsSorted}
use Rattle.std.specs.List.{sum_by}
use Rattle.std.specs.Ordering.{nat_cmp, ordering_then}
use Rattle.model.specs.States.{HeapState}
use Rattle.model.specs.Stores.{state_at, has_memory, is_protected}
use Rattle.model.specs.Plans.{live_offsets, object_words, plan_of, target_count}
use Rattle.model.specs.Protections.{is_closed, free_count, unused_count}
use Rattle.model.specs.Tallies.{most_counted}

-- the number of words of the object at an offset of page n
abbrev pub size_on : HeapState → ℕ → ℕ → ℕ
size_on h n o = object_words h (n * h.store.words + o)

-- the sizes of the live objects of page n, by their offsets
abbrev pub sizes_on : HeapState → ℕ → List ℕ
sizes_on h n = map (size_on h n) (live_offsets h n)

-- the number of live words of page n
abbrev pub live_words : HeapState → ℕ → ℕ
live_words h n = sum_by (size_on h n) (live_offsets h n)

-- the number of live words of pages, up to the greatest number that is counted to
abbrev pub words_on : HeapState → List ℕ → ℕ
words_on h ns = min (sum_by (live_words h) ns) most_counted

-- page n has memory, and isn't protected
abbrev pub is_in_use : HeapState → ℕ → Bool
is_in_use h n = has_memory (state_at h.store n) && not (is_protected (state_at h.store n))

-- the number of live words of page n if it is in use, else 0
abbrev pub words_in_use : HeapState → ℕ → ℕ
words_in_use h n = if is_in_use h n then live_words h n else 0

-- the number of live words of those of pages 1 to n that are in use
abbrev pub words_to : HeapState → ℕ → ℕ
words_to h zero = 0
words_to h (suc n) = words_to h n + words_in_use h (suc n)

-- the number of live words of all pages that are in use
abbrev pub all_words : HeapState → ℕ
all_words h = words_to h h.store.count

abbrev pub is_closed_at : HeapState → ℕ → Bool
is_closed_at h n = is_closed (state_at h.store n)

-- page n is closed, and at most the given percentage of its words is live
abbrev pub is_sparse : HeapState → ℕ → ℕ → Bool
is_sparse h percent n = is_closed_at h n && nat_le (live_words h n * 100) (percent * h.store.words)

-- page n with its number of live words before it
abbrev pub measured : HeapState → ℕ → ℕ × ℕ
measured h n = (live_words h n, n)

abbrev pub measured_if : HeapState → ℕ → ℕ → Option (ℕ × ℕ)
measured_if h percent n = if is_sparse h percent n then Some (measured h n) else None

-- pages with one more, if it is sparse
abbrev pub with_sparse : List (ℕ × ℕ) → Option (ℕ × ℕ) → List (ℕ × ℕ)
with_sparse ps None = ps
with_sparse ps (Some p) = ps ++ p ∷ []

-- the sparse ones of pages 1 to n, each with its number of live words before it
abbrev pub sparse_to : HeapState → ℕ → ℕ → List (ℕ × ℕ)
sparse_to h percent zero = []
sparse_to h percent (suc n) = if is_sparse h percent (suc n) then sparse_to h percent n ++ measured h (suc n) ∷ []
    else sparse_to h percent n

-- all sparse pages, each with its number of live words before it
abbrev pub sparse_pages : HeapState → ℕ → List (ℕ × ℕ)
sparse_pages h percent = sparse_to h percent h.store.count

-- pages and a number of words are the sparse ones and the live words of the pages after page `first`, up to page `end`
pub record AreOf (h : HeapState) (percent first end : ℕ) (found : List (ℕ × ℕ)) (live : ℕ) : Type 0 where
  pub pages : sparse_to h percent first ++ found ≡ sparse_to h percent end
  pub words : words_to h first + live ≡ words_to h end
  pub few : live + 131071 * 32768 * first ≤ 131071 * 32768 * end

-- the page of a pair
abbrev pub page_of : ℕ × ℕ → ℕ
page_of p = p.1

-- it is a page of the heap, with its number of live words before it
abbrev pub ArePages : HeapState → ℕ × ℕ → Type 0
ArePages h p = (0 < p.1) × (p.1 ≤ h.store.count) × (p.0 ≡ live_words h p.1)

-- by live words, and by number if these are equal
abbrev pub IsRising : List (ℕ × ℕ) → Type 0
IsRising ps = IsSorted (λ (x : ℕ × ℕ) (y : ℕ × ℕ). ordering_then (nat_cmp x.0 y.0) (nat_cmp x.1 y.1)) ps

-- there are enough free frames and unused pages for the plan of pages
abbrev pub has_room_for : HeapState → List ℕ → Bool
has_room_for h pages =
    nat_le (target_count (plan_of h pages)) (free_count h.store)
    && nat_le (target_count (plan_of h pages)) (unused_count h.store)

-- the longest prefix of a list of pages for which there is space
abbrev pub IsLongest : HeapState → List ℕ → List ℕ → Type 0
IsLongest h ns xs = (k : ℕ) × (xs ≡ take k ns) × (has_room_for h xs ≡ true)
    × ((j : ℕ) → k < j → j ≤ length ns → has_room_for h (take j ns) ≡ false)

-- The sparse pages by rising numbers of live words, and by rising page numbers if these are equal, cut to the longest
-- prefix for which there is space.
abbrev pub IsChoice : HeapState → ℕ → List ℕ → Type 0
IsChoice h percent xs = (ps : List (ℕ × ℕ)) × IsPermutation (sparse_pages h percent) ps × IsRising ps
    × IsLongest h (map page_of ps) xs
