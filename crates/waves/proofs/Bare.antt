-- Pages that have no bitmap.
use Rattle.std.proofs.Common.{◌≡◌, ◌≢◌, ◌⊎◌, inl, inr, ℕ, zero, suc, ◌+◌, ◌≤◌, ◌<◌, Bool, List, [], ◌∷◌, get_or, length, Some, None}
use Rattle.std.proofs.Common.{refl, sym, ◌∙◌, arith, subst}
use Rattle.std.specs.List.{slice_get}
use Rattle.std.proofs.lemmas.Bool.{cases_eq, cases_lt}
use Rattle.std.proofs.lemmas.Option.{get_or_from_slice_get}
use Rattle.model.specs.Holding.{IsHeap}
use Rattle.model.specs.States.{HeapState}
use Rattle.model.proofs.Tables.{rows_many}
use Rattle.waves.specs.Parts.{AreBare}

-- the page of a record's index has no bitmap
abbrev pub IsBare : HeapState → ℕ → Type 0
IsBare h j = (get_or h.mark j [] ≡ []) × (get_or h.todo j [] ≡ [])

read_past : (rows : List (List Bool)) (j : ℕ) → length rows ≤ j → get_or rows j [] ≡ []
read_past [] j l = refl
read_past (r ∷ rs) zero l = absurd (omega (arith, l))
read_past (r ∷ rs) (suc j) l = read_past rs j (omega (arith, l))

pub none_bare : (rows : List (List Bool)) (j : ℕ) → slice_get rows j ≡ None → get_or rows j [] ≡ []
none_bare [] j e = refl
none_bare (r ∷ rs) zero e = absurd (cc)
none_bare (r ∷ rs) (suc j) e = none_bare rs j e

pub some_bare : (rows : List (List Bool)) (j : ℕ) (row : List Bool) → slice_get rows j ≡ Some row → length row ≡ 0
    → get_or rows j [] ≡ []
some_bare rows j row e l = get_or_from_slice_get rows j row [] e ∙ empty row l
  where
    empty : (xs : List Bool) → length xs ≡ 0 → xs ≡ []
    empty [] l = refl
    empty (x ∷ xs) l = absurd (omega (arith, l))

pub bare_next : (h : HeapState) (n i j : ℕ) → ((k : ℕ) → n ≤ k → k < i → IsBare h k) → IsBare h i → n ≤ j → j < i + 1
    → IsBare h j
bare_next h n i j k here low high = by_place (cases_eq j i)
  where
    by_place : (j ≡ i) ⊎ (j ≢ i) → IsBare h j
    by_place (inl e) = subst (λ m. IsBare h m) (sym e) here
    by_place (inr d) = k j low (omega (arith, high, d))

pub bare_end : (h : HeapState) (n i : ℕ) → IsHeap h → ((k : ℕ) → n ≤ k → k < i → IsBare h k)
    → length h.store.pages ≤ i → AreBare h n
bare_end h n i heap k l j low = by_place (cases_lt j i)
  where
    by_place : (j < i) ⊎ (i ≤ j) → IsBare h j
    by_place (inl b) = k j low b
    by_place (inr b) = (
      read_past h.mark j (omega (arith, rows_many h.store h.mark heap.mark, l, b)),
      read_past h.todo j (omega (arith, rows_many h.store h.todo heap.todo, l, b)),
    )
