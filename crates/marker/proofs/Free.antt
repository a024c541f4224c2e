-- The lowest grey object that no worker has is found page by page.
use Rattle.std.proofs.Common.{◌≡◌, ◌≢◌, ◌⊎◌, inl, inr, ℕ, zero, suc, ◌+◌, ◌-◌, ◌*◌, ◌/◌, ◌%◌, ◌<◌, ◌≤◌, ◌&&◌, not, Bool}
use Rattle.std.proofs.Common.{true}
use Rattle.std.specs.Prelude.{slice_index_or, ◌==◌}
use Rattle.std.proofs.Common.{false, List, [], ◌∷◌, map, get_or, count_by, length, Option, Some, None, refl, sym}
use Rattle.std.proofs.Common.{◌∙◌, ap, arith}
use Rattle.std.proofs.Common.{unwrap_or, subst}
use Rattle.std.specs.List.{find, range_with_len, slice_get}
use Rattle.std.proofs.lemmas.Option.{unwrap_or-slice_get}
use Rattle.std.proofs.lemmas.List.{get_or_past, length-map}
use Rattle.model.specs.declared.limits.TheConstants.{MOST_PAGES}
use Rattle.model.specs.Stores.{record_count}
use Rattle.model.specs.Owning.{IsStore}
use Rattle.model.specs.Holding.{IsHeap}
use Rattle.model.proofs.Tables.{row_short}
use Rattle.model.proofs.Tables as tables
use Rattle.model.proofs.Lists.{get_within, none_counted}
use Rattle.std.proofs.lemmas.Nat.{div-mul-add}
use Rattle.std.proofs.lemmas.Bool.Decides.{nat_tests}
use Rattle.std.proofs.lemmas.Bool.{cases_lt, cases_eq, eqb-true, not-false, true≢false}
use Rattle.std.proofs.Math.Nat.{mul-add-mod_self_right, mod-eq_of_lt, mul-le-mul_right}
use Rattle.model.specs.States.{HeapState}
use Rattle.model.specs.Bits.{of_page, bit_on}
use Rattle.model.specs.Scans.{is_taken, is_free_todo, next_todo}
use Rattle.marker.specs.Free.{is_free_on, IsFirstFree, IsNextFree}
use Rattle.markbits.specs.Indexing.{has_bits}
use Rattle.markbits.specs.Words.{IsNextPlace, IsFirstFrom}

-- none of n numbers from a on passes
find_none : (p : ℕ → Bool) (a n : ℕ) → ((x : ℕ) → a ≤ x → x < a + n → p x ≡ false) → find p (range_with_len a n) ≡ None
find_none p a zero h = refl
find_none p a (suc n) h = rw (h a (omega arith) (omega arith))
    (find_none p (a + 1) n (λ x low high. h x (omega (arith, low)) (omega (arith, high))))

-- k is the first that passes
find_some : (p : ℕ → Bool) (a n k : ℕ) → a ≤ k → k < a + n → p k ≡ true
    → ((x : ℕ) → a ≤ x → x < k → p x ≡ false) → find p (range_with_len a n) ≡ Some k
find_some p a zero k low high here before = absurd (omega (arith, low, high))
find_some p a (suc n) k low high here before = by_first (cases_eq a k)
    (λ e. find_some p (a + 1) n k (omega (arith, low, e)) (omega (arith, high)) here
    (λ x l m. before x (omega (arith, l)) m))
  where
    by_first : (a ≡ k) ⊎ (a ≢ k) → (a ≢ k → find p (range_with_len (a + 1) n) ≡ Some k)
        → find p (range_with_len a (suc n)) ≡ Some k
    by_first (inl e) rest = rw (ap p e ∙ here) (ap Some e)
    by_first (inr e) rest = rw (before a (omega arith) (omega (arith, low, e))) (rest e)

-- an object that is free by its address is free in its page's bitmap
free_on_page : (h : HeapState) (page o : ℕ) → o < h.store.words
    → is_free_todo h (page * h.store.words + o) ≡ is_free_on h (of_page h.todo page) page o
unfolding is_free_todo is_free_on
free_on_page h page o within =
    let a = page * h.store.words + o in
    ap (λ n. bit_on h.todo n (a % h.store.words) && not (is_taken h a)) (div-mul-add page h.store.words o within)
    ∙ ap (λ n. bit_on h.todo page n && not (is_taken h a))
    (mul-add-mod_self_right page h.store.words o ∙ mod-eq_of_lt within)

-- no object before those of a page is free
abbrev pub NoneBefore : HeapState → ℕ → Type 0
NoneBefore h page = (x : ℕ) → h.store.words ≤ x → x < page * h.store.words → is_free_todo h x ≡ false

one_more : (page words : ℕ) → (page + 1) * words ≡ page * words + words
one_more page words = grind arith

pub none_first : (h : HeapState) → NoneBefore h 1
none_first h x low high = absurd (omega (arith, low, high, one_more 0 h.store.words))

pub none_more : (h : HeapState) (page : ℕ) → NoneBefore h page
    → ((j : ℕ) → is_free_on h (of_page h.todo page) page j ≡ false) → NoneBefore h (page + 1)
none_more h page before here x low high = by_place (cases_lt x (page * h.store.words))
  where
    by_place : (x < page * h.store.words) ⊎ (page * h.store.words ≤ x) → is_free_todo h x ≡ false
    by_place (inl a) = before x low a
    by_place (inr a) =
        let o : ℕ = x - page * h.store.words in
        let back : page * h.store.words + o ≡ x = omega (arith, a) in
        let within : o < h.store.words = omega (arith, a, high, one_more page h.store.words) in
        ap (is_free_todo h) (sym back) ∙ free_on_page h page o within ∙ here o

pub next_is : (h : HeapState) (page k : ℕ) → 0 < page → page ≤ length h.todo
    → length (of_page h.todo page) ≤ h.store.words → NoneBefore h page
    → IsFirstFree h (of_page h.todo page) page k → Some (page * h.store.words + k) ≡ next_todo h
unfolding next_todo
next_is h page k low high size before first =
    sym (find_some (is_free_todo h) h.store.words (length h.todo * h.store.words) (page * h.store.words + k)
    (omega (arith, from)) (omega (arith, to, k_low)) (free_on_page h page k k_low ∙ first.here) earlier)
  where
    k_low : k < h.store.words
    k_low = omega (arith, size, first.within)

    from : 1 * h.store.words ≤ page * h.store.words
    from = mul-le-mul_right h.store.words low

    to : page * h.store.words ≤ length h.todo * h.store.words
    to = mul-le-mul_right h.store.words high

    earlier : (x : ℕ) → h.store.words ≤ x → x < page * h.store.words + k → is_free_todo h x ≡ false
    earlier x a b = by_place (cases_lt x (page * h.store.words))
      where
        by_place : (x < page * h.store.words) ⊎ (page * h.store.words ≤ x) → is_free_todo h x ≡ false
        by_place (inl c) = before x a c
        by_place (inr c) =
            let o : ℕ = x - page * h.store.words in
            let back : page * h.store.words + o ≡ x = omega (arith, c) in
            ap (is_free_todo h) (sym back) ∙ free_on_page h page o (omega (arith, b, c, k_low))
            ∙ first.before o (omega (arith, b, c))

pub next_none : (h : HeapState) (page : ℕ) → length h.todo + 1 ≤ page → NoneBefore h page → None ≡ next_todo h
unfolding next_todo
next_none h page e before = sym (find_none (is_free_todo h) h.store.words (length h.todo * h.store.words)
    (λ x low high. before x low (omega (arith, high, all, one_more (length h.todo) h.store.words))))
  where
    all : (length h.todo + 1) * h.store.words ≤ page * h.store.words
    all = mul-le-mul_right h.store.words e

-- pages and their bitmaps

row_is : (todo : List (List Bool)) (n : ℕ) (o : Option (List Bool)) → n ≢ 0 → slice_get todo (n - 1) ≡ o
    → of_page todo n ≡ unwrap_or o []
row_is todo zero o h e = absurd (h refl)
row_is todo (suc i) o h e =
    let back : suc i - 1 ≡ i = omega arith in
    sym (unwrap_or-slice_get todo i []) ∙ ap (λ k. unwrap_or (slice_get todo k) []) (sym back)
    ∙ ap (λ r. unwrap_or r []) e

-- nothing is free if there is no bitmap
none_on : (h : HeapState) (row : List Bool) (page j : ℕ) → row ≡ [] → is_free_on h row page j ≡ false
unfolding is_free_on
none_on h row page j e = rw e refl

pub none_on_zero : (h : HeapState) (page j : ℕ) → page ≡ 0 → is_free_on h (of_page h.todo page) page j ≡ false
none_on_zero h page j e = none_on h (of_page h.todo page) page j (ap (of_page h.todo) e)

pub none_on_missing : (h : HeapState) (page j : ℕ) → page ≢ 0 → slice_get h.todo (page - 1) ≡ None
    → is_free_on h (of_page h.todo page) page j ≡ false
none_on_missing h page j z e = none_on h (of_page h.todo page) page j (row_is h.todo page None z e)

pub next_on_row : (h : HeapState) (page : ℕ) (row : List Bool) (r : Option ℕ) → page ≢ 0
    → slice_get h.todo (page - 1) ≡ Some row → IsNextFree h row page r → IsNextFree h (of_page h.todo page) page r
next_on_row h page row r z e n =
    subst (λ (ws : List Bool). IsNextFree h ws page r) (sym (row_is h.todo page (Some row) z e)) n

-- an index of a list has each element's value
get_or_mapped : {X Y : Type 0} (f : X → Y) (xs : List X) (i : ℕ) (d : X) → get_or (map f xs) i (f d) ≡ f (get_or xs i d)
get_or_mapped f [] i d = refl
get_or_mapped f (x ∷ xs) zero d = refl
get_or_mapped f (x ∷ xs) (suc i) d = get_or_mapped f xs i d

-- nothing is free on a page whose bitmap is empty
none_on_blank : (h : HeapState) (i j : ℕ) → slice_index_or (map has_bits h.todo) i false ≡ false
    → is_free_on h (of_page h.todo (i + 1)) (i + 1) j ≡ false
unfolding is_free_on
none_on_blank h i j e = subst
    (λ n. slice_index_or (of_page h.todo n) j false && not (is_taken h (n * h.store.words + j)) ≡ false)
    one_behind (ap (λ b. b && not (is_taken h (suc i * h.store.words + j))) blank)
  where
    one_behind : suc i ≡ i + 1
    one_behind = omega arith

    row : List Bool
    row = get_or h.todo i []

    counted : count_by (λ b. b) row ≡ 0
    counted = eqb-true (count_by (λ b. b) row) 0
        (not-false (count_by (λ b. b) row == 0) (sym (get_or_mapped has_bits h.todo i []) ∙ e))

    blank : get_or row j false ≡ false
    blank = none_counted row counted j

-- pages that are skipped
pub none_skipped : (h : HeapState) (from n to : ℕ) → to ≡ from + n → NoneBefore h (from + 1)
    → ((i : ℕ) → from ≤ i → i < to → slice_index_or (map has_bits h.todo) i false ≡ false) → NoneBefore h (to + 1)
none_skipped h from zero to e before blank = subst (λ n. NoneBefore h (n + 1)) (omega (arith, e)) before
none_skipped h from (suc n) to e before blank =
    none_skipped h (from + 1) n to (omega (arith, e))
    (none_more h (from + 1) before (λ j. none_on_blank h from j (blank from (omega arith) (omega (arith, e)))))
    (λ i low high. blank i (omega (arith, low)) high)

-- there is a bitmap for each record, of no more bits than a page has words
pub rows_many : (h : HeapState) → IsStore h.store → IsHeap h → length h.todo ≡ length h.store.pages
rows_many h s i = tables.rows_many h.store h.todo i.todo

pub row_size : (h : HeapState) (page : ℕ) → IsHeap h → 0 < page → page ≤ length h.todo
    → length (of_page h.todo page) ≤ h.store.words
row_size h page i low high =
    let found = get_within h.todo (page - 1) (omega (arith, low, high)) in
    omega (
      arith,
      ap length (row_is h.todo page (Some found.0) (λ e. absurd (omega (arith, e, low))) found.1),
      row_short h.store h.todo (page - 1) found.0 i.todo found.1,
    )

-- the next bitmap that has a bit set

pub busy_is : (todo rows : List (List Bool)) (from index : ℕ) (r : Option ℕ) → rows ≡ todo → r ≡ Some index
    → IsNextPlace (map has_bits rows) from r → IsFirstFrom (map has_bits todo) from index
busy_is todo rows from index r e f n = subst (λ (x : List (List Bool)). IsFirstFrom (map has_bits x) from index) e
    (subst (IsNextPlace (map has_bits rows) from) f n)

pub none_busy : (todo rows : List (List Bool)) (from : ℕ) (r : Option ℕ) → rows ≡ todo → r ≡ None
    → IsNextPlace (map has_bits rows) from r → (j : ℕ) → from ≤ j → slice_index_or (map has_bits todo) j false ≡ false
none_busy todo rows from r e f n = subst (λ (x : List (List Bool)). (j : ℕ) → from ≤ j
    → slice_index_or (map has_bits x) j false ≡ false) e (subst (IsNextPlace (map has_bits rows) from) f n)

-- it exists
pub busy_there : (todo : List (List Bool)) (i : ℕ) → slice_index_or (map has_bits todo) i false ≡ true → i < length todo
busy_there todo i e = by_place (cases_lt i (length todo))
  where
    by_place : (i < length todo) ⊎ (length todo ≤ i) → i < length todo
    by_place (inl m) = m
    by_place (inr m) = absurd (true≢false (sym e
        ∙ get_or_past (map has_bits todo) i false (omega (arith, m, length-map todo has_bits))))

-- a free object is found on the page
pub found_on : (h : HeapState) (from i k : ℕ) → IsHeap h → NoneBefore h (from + 1)
    → IsFirstFrom (map has_bits h.todo) from i → IsFirstFree h (of_page h.todo (i + 1)) (i + 1) k
    → (k < h.store.words) × (Some ((i + 1) * h.store.words + k) ≡ next_todo h)
found_on h from i k d before busy first =
    let there = busy_there h.todo i busy.here in
    let size = row_size h (i + 1) d (omega arith) (omega (arith, there)) in
    let skipped = none_skipped h from (i - from) i (omega (arith, busy.low)) before
    (λ j low high. busy.before j low high) in (
      omega (arith, first.within, size),
      next_is h (i + 1) k (omega arith) (omega (arith, there)) size skipped first,
    )

-- the page has a number in range
pub on_page : (h : HeapState) (from i k a : ℕ) → IsStore h.store → IsHeap h
    → IsFirstFrom (map has_bits h.todo) from i
    → k < h.store.words → a ≡ (i + 1) * h.store.words + k → a / h.store.words ≤ MOST_PAGES
on_page h from i k a s d busy within is =
    let e : a / h.store.words ≡ i + 1 = ap (λ n. n / h.store.words) is ∙ div-mul-add (i + 1) h.store.words k within in
    omega (
      arith,
      e,
      busy_there h.todo i busy.here,
      rows_many h s d,
      s.sized.pages,
      few (length h.store.frames) h.store.count s.sized.count,
    )
  where
    few : (frames count : ℕ) → count ≤ MOST_PAGES → record_count frames count ≤ MOST_PAGES
    few frames count k = grind (arith, nat_tests)

-- no free object is found on the page
pub none_found_on : (h : HeapState) (from i : ℕ) → NoneBefore h (from + 1) → IsFirstFrom (map has_bits h.todo) from i
    → IsNextFree h (of_page h.todo (i + 1)) (i + 1) None → NoneBefore h (i + 1 + 1)
none_found_on h from i before busy none = none_more h (i + 1)
    (none_skipped h from (i - from) i (omega (arith, busy.low)) before (λ j low high. busy.before j low high)) none

-- no free object is left
pub none_left : (h : HeapState) (from : ℕ) → NoneBefore h (from + 1)
    → ((j : ℕ) → from ≤ j → slice_index_or (map has_bits h.todo) j false ≡ false) → None ≡ next_todo h
none_left h from before none = next_none h (from + length h.todo + 1) (omega arith)
    (none_skipped h from (length h.todo) (from + length h.todo) refl before (λ j low high. none j low))
