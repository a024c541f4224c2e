-- The index of bitmaps is set again for each of them.
use Rattle.std.proofs.Common.{◌≡◌, ◌≢◌, ◌⊎◌, inl, inr, ℕ, zero, suc, ◌+◌, ◌≤◌, ◌<◌, Bool, true, List, [], ◌∷◌, length, map, set, get_or, Option}
use Rattle.std.proofs.Common.{Some, None, sym, ◌∙◌, ap, arith}
use Rattle.std.specs.List.{slice_get}
use Rattle.std.proofs.Math.ListN.{length-set}
use Rattle.std.proofs.lemmas.Bool.{cases_eq}
use Rattle.std.proofs.lemmas.List.{length-map}
use Rattle.std.proofs.lemmas.Option.{slice_get-get_or}
use Rattle.sequences.proofs.Elements.{same_lists, get_set_same, get_set_other}
use Rattle.markbits.specs.Indexing.{has_bits, settle}

get_map : (rows : List (List Bool)) (i : ℕ) (row : List Bool) → slice_get rows i ≡ Some row
    → slice_get (map has_bits rows) i ≡ Some (has_bits row)
get_map [] i row e = absurd (cc)
get_map (r ∷ rs) zero row e = ap (λ (o : Option (List Bool)). Some (has_bits (of o))) e
  where
    of : Option (List Bool) → List Bool
    of None = row
    of (Some x) = x
get_map (r ∷ rs) (suc i) row e = get_map rs i row e

-- the entries before number n are as they are to be
pub record AreSettled (busy : List Bool) (rows : List (List Bool)) (n : ℕ) : Type 0 where
  pub many : length busy ≡ length rows
  pub each : (i : ℕ) → i < n → slice_get busy i ≡ slice_get (map has_bits rows) i

pub none_settled : (busy : List Bool) (rows : List (List Bool)) → length busy ≡ length rows → AreSettled busy rows 0
none_settled busy rows e = record { many = e; each = λ i l. absurd (omega (arith, l)) }

pub one_settled : (busy new : List Bool) (rows : List (List Bool)) (n : ℕ) → AreSettled busy rows n → n < length rows
    → new ≡ settle busy n (slice_get rows n) → AreSettled new rows (n + 1)
one_settled busy new rows n s low e = record {
  many = ap length now ∙ length-set busy n (has_bits row) ∙ s.many;
  each = λ i l. ap (λ xs. slice_get xs i) now ∙ by_place i l (cases_eq i n);
}
  where
    row : List Bool
    row = get_or rows n []

    there : slice_get rows n ≡ Some row
    there = slice_get-get_or rows n [] low

    now : new ≡ set busy n (has_bits row)
    now = e ∙ ap (settle busy n) there

    old : Bool
    old = get_or busy n true

    before : slice_get busy n ≡ Some old
    before = slice_get-get_or busy n true (omega (arith, low, s.many))

    by_place : (i : ℕ) → i < n + 1 → (i ≡ n) ⊎ (i ≢ n)
        → slice_get (set busy n (has_bits row)) i ≡ slice_get (map has_bits rows) i
    by_place i l (inl same) =
        ap (slice_get (set busy n (has_bits row))) same ∙ get_set_same busy n old (has_bits row) before
        ∙ sym (get_map rows n row there) ∙ ap (slice_get (map has_bits rows)) (sym same)
    by_place i l (inr other) =
        get_set_other busy n i (has_bits row) other ∙ s.each i (below i n l other)
      where
        below : (i n : ℕ) → i < n + 1 → i ≢ n → i < n
        below i n l other = grind (arith)

pub all_settled : (busy : List Bool) (rows : List (List Bool)) (n : ℕ) → AreSettled busy rows n → length rows ≤ n
    → busy ≡ map has_bits rows
all_settled busy rows n s le = same_lists busy (map has_bits rows) (s.many ∙ sym (length-map rows has_bits))
    (λ i l. s.each i (omega (arith, l, le, s.many)))
