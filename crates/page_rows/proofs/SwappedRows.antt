-- Bitmaps of pages are swapped with those of owned pages, one page after the other.
use Rattle.std.proofs.Common.{◌≡◌, ℕ, ◌+◌, ◌≤◌, ◌<◌, Bool, List, [], ◌∷◌, ◌++◌, length, take, drop, get_or, set}
use Rattle.std.proofs.Common.{refl, sym, ◌∙◌, ap, arith, subst}
use Rattle.std.proofs.lemmas.List.{drop_more, drop_all, take_all, take_more_set, drop-set-lt, append_assoc, append-nil}
use Rattle.page.specs.declared.owned.OwnedPage.{OwnedPage}
use Rattle.page.specs.declared.owned.Part.{Part}
use Rattle.page_rows.specs.Owning.{SwappedRows, SwappedRowsOf}

-- if the rest is swapped, all is
abbrev pub RowsRest : ℕ → List (List Bool) → List (List Bool) → List OwnedPage → ℕ → List (List Bool)
    → List (List Bool) → List OwnedPage → Type 0
RowsRest first mark todo owned i m g at =
    (marked grey : List (List Bool)) (rest : List OwnedPage) → SwappedRows (first + i) m g (drop i at) marked grey rest
    → SwappedRows first mark todo owned marked grey (take i at ++ rest)

pub rows_first : (first : ℕ) (mark todo : List (List Bool)) (owned : List OwnedPage)
    → RowsRest first mark todo owned 0 mark todo owned
rows_first first mark todo owned marked grey rest s =
    let none : first + 0 ≡ first = omega arith in
    subst (λ n. SwappedRows n mark todo owned marked grey rest) none s

pub rows_next : (first : ℕ) (mark todo : List (List Bool)) (owned : List OwnedPage) (i : ℕ)
    (m g m2 g2 : List (List Bool)) (at : List OwnedPage) (d q : OwnedPage)
    → RowsRest first mark todo owned i m g at → i < length at
    → m2 ≡ set m (first + i) (get_or at i d).marked → g2 ≡ set g (first + i) (get_or at i d).grey
    → q ≡ record (get_or at i d) {
      marked = get_or m (first + i) (get_or at i d).marked;
      grey = get_or g (first + i) (get_or at i d).grey;
    } → RowsRest first mark todo owned (i + 1) m2 g2 (set at i q)
rows_next first mark todo owned i m g m2 g2 at d q so_far within marks greys own marked grey rest s =
    let p : OwnedPage = get_or at i d in
    let front : take (i + 1) (set at i q) ≡ take i at ++ q ∷ [] = take_more_set at i q within in
    let back : drop (i + 1) (set at i q) ≡ drop (i + 1) at = drop-set-lt (i + 1) at i q (omega arith) in
    let here : drop i at ≡ p ∷ drop (i + 1) at = drop_more at i d within in
    let place : first + (i + 1) ≡ first + i + 1 = omega arith in
    let moved : SwappedRows (first + i + 1) (set m (first + i) p.marked) (set g (first + i) p.grey) (drop (i + 1) at)
    marked grey rest =
    subst (λ n. SwappedRows n (set m (first + i) p.marked) (set g (first + i) p.grey) (drop (i + 1) at) marked grey rest)
    place
    (subst (λ us. SwappedRows (first + (i + 1)) us (set g (first + i) p.grey) (drop (i + 1) at) marked grey rest) marks
    (subst (λ us. SwappedRows (first + (i + 1)) m2 us (drop (i + 1) at) marked grey rest) greys
    (subst (λ xs. SwappedRows (first + (i + 1)) m2 g2 xs marked grey rest) back s))) in
    subst (SwappedRows first mark todo owned marked grey)
    (sym (ap (λ xs. xs ++ rest) front ∙ append_assoc (take i at) (q ∷ []) rest))
    (so_far marked grey (q ∷ rest)
    (subst (λ xs. SwappedRows (first + i) m g xs marked grey (q ∷ rest)) (sym here) (own, moved)))

pub rows_last : (first : ℕ) (mark todo : List (List Bool)) (owned : List OwnedPage) (i : ℕ) (m g : List (List Bool))
    (at : List OwnedPage) → RowsRest first mark todo owned i m g at → length at ≤ i
    → SwappedRows first mark todo owned m g at
rows_last first mark todo owned i m g at all past =
    subst (SwappedRows first mark todo owned m g) (append-nil (take i at) ∙ take_all i at past)
    (all m g [] (subst (λ xs. SwappedRows (first + i) m g xs m g []) (sym (drop_all i at past)) (refl, refl)))

-- ---- parts

-- if the rest of the parts is swapped, all are
abbrev pub PartRowsRest : List (List Bool) → List (List Bool) → List Part → ℕ → List (List Bool) → List (List Bool)
    → List Part → Type 0
PartRowsRest mark todo parts i m g at =
    (marked grey : List (List Bool)) (rest : List Part) → SwappedRowsOf m g (drop i at) marked grey rest
    → SwappedRowsOf mark todo parts marked grey (take i at ++ rest)

pub part_rows_next : (mark todo : List (List Bool)) (parts : List Part) (i : ℕ) (m g m2 g2 : List (List Bool))
    (at : List Part) (d q : Part) → PartRowsRest mark todo parts i m g at → i < length at
    → SwappedRows (get_or at i d).first m g (get_or at i d).pages.items m2 g2 q.pages.items
    → q ≡ record (get_or at i d) { pages = q.pages } → PartRowsRest mark todo parts (i + 1) m2 g2 (set at i q)
part_rows_next mark todo parts i m g m2 g2 at d q so_far within swapped same marked grey rest s =
    let p : Part = get_or at i d in
    let front : take (i + 1) (set at i q) ≡ take i at ++ q ∷ [] = take_more_set at i q within in
    let back : drop (i + 1) (set at i q) ≡ drop (i + 1) at = drop-set-lt (i + 1) at i q (omega arith) in
    let here : drop i at ≡ p ∷ drop (i + 1) at = drop_more at i d within in
    subst (SwappedRowsOf mark todo parts marked grey)
    (sym (ap (λ xs. xs ++ rest) front ∙ append_assoc (take i at) (q ∷ []) rest))
    (so_far marked grey (q ∷ rest)
    (subst (λ xs. SwappedRowsOf m g xs marked grey (q ∷ rest)) (sym here)
    (m2, g2, swapped, same, subst (λ xs. SwappedRowsOf m2 g2 xs marked grey rest) back s)))

pub part_rows_last : (mark todo : List (List Bool)) (parts : List Part) (i : ℕ) (m g : List (List Bool))
    (at : List Part) → PartRowsRest mark todo parts i m g at → length at ≤ i
    → SwappedRowsOf mark todo parts m g at
part_rows_last mark todo parts i m g at all past =
    subst (SwappedRowsOf mark todo parts m g) (append-nil (take i at) ∙ take_all i at past)
    (all m g [] (subst (λ xs. SwappedRowsOf m g xs m g []) (sym (drop_all i at past)) (refl, refl)))
