-- The index of bitmaps that have a bit set.
use Rattle.std.proofs.Common.{◌≡◌, ℕ, zero, suc, ◌+◌, ◌<◌, Bool, false, not, cond, List, [], ◌∷◌, map}
use Rattle.std.proofs.Common.{replicate, set}
use Rattle.std.proofs.Common.{count_by, Option, Some, None, refl, sym, ◌∙◌, ap, subst, arith}
use Rattle.std.specs.List.{slice_get, slice_index_or}
use Rattle.std.specs.Prelude.{◌==◌}
use Rattle.std.proofs.lemmas.List.{map-set, set-get_or}
use Rattle.std.proofs.lemmas.List.Sums.{sum_by-cons}
use Rattle.std.proofs.lemmas.Bool.Decides.{nat_tests}
use Rattle.sequences.specs.Elements.{change_at, change_found}
use Rattle.sequences.specs.Bits.{bit_count, put_bit}
use Rattle.sequences.proofs.Elements.{get_set_same, as_number}
use Rattle.markbits.specs.Indexing.{has_bits, settle}

-- the index of rows of which one is changed
pub settled : (rows new : List (List Bool)) (busy : List Bool) (i : ℕ) (f : List Bool → List Bool)
    → busy ≡ map has_bits rows → new ≡ change_at rows i f → settle busy i (slice_get new i) ≡ map has_bits new
settled rows new busy i f e k = subst (λ n. settle busy i (slice_get n i) ≡ map has_bits n) (sym k)
    (subst (λ b. settle b i (slice_get (change_at rows i f) i) ≡ map has_bits (change_at rows i f)) (sym e)
    (by_row (slice_get rows i) refl))
  where
    by_row : (o : Option (List Bool)) → slice_get rows i ≡ o
        → settle (map has_bits rows) i (slice_get (change_found rows i o f) i) ≡ map has_bits (change_found rows i o f)
    by_row None g = ap (settle (map has_bits rows) i) g
    by_row (Some row) g = ap (settle (map has_bits rows) i) (get_set_same rows i row (f row) g)
        ∙ sym (map-set has_bits rows i (f row))

set_missing : (xs : List (List Bool)) (i : ℕ) (x : List Bool) → slice_get xs i ≡ None → set xs i x ≡ xs
set_missing [] i x g = refl
set_missing (y ∷ xs) zero x g = absurd (cc)
set_missing (y ∷ xs) (suc i) x g = ap (λ zs. y ∷ zs) (set_missing xs i x g)

-- the index of rows of which one is put in the place of another
pub settled_placed : (rows new : List (List Bool)) (busy row : List Bool) (i : ℕ) → busy ≡ map has_bits rows
    → new ≡ set rows i row → settle busy i (slice_get new i) ≡ map has_bits new
settled_placed rows new busy row i e k = subst (λ n. settle busy i (slice_get n i) ≡ map has_bits n) (sym k)
    (subst (λ b. settle b i (slice_get (set rows i row) i) ≡ map has_bits (set rows i row)) (sym e)
    (by_row (slice_get rows i) refl))
  where
    by_row : (o : Option (List Bool)) → slice_get rows i ≡ o
        → settle (map has_bits rows) i (slice_get (set rows i row) i) ≡ map has_bits (set rows i row)
    by_row None g = ap (λ xs. settle (map has_bits rows) i (slice_get xs i)) (set_missing rows i row g)
        ∙ ap (settle (map has_bits rows) i) g ∙ sym (ap (map has_bits) (set_missing rows i row g))
    by_row (Some old) g = ap (settle (map has_bits rows) i) (get_set_same rows i old row g)
        ∙ sym (map-set has_bits rows i row)

-- an entry that is as it is to be
pub settled_before : (busy : List Bool) (i : ℕ) (row : List Bool) → slice_index_or busy i false ≡ has_bits row
    → busy ≡ set busy i (has_bits row)
settled_before busy i row is = sym (subst (λ b. set busy i b ≡ busy) is (set-get_or busy i false))

-- a bit that is put where it is as it was changes nothing
pub put_again : (rows : List (List Bool)) (i o : ℕ) (bit : Bool) (row : List Bool) → slice_get rows i ≡ Some row
    → slice_index_or row o false ≡ bit → change_at rows i (put_bit o bit) ≡ rows
put_again rows i o bit row e is = ap (λ r. change_found rows i r (put_bit o bit)) e
    ∙ ap (set rows i) (subst (λ b. set row o b ≡ row) is (set-get_or row o false)) ∙ set_back rows i row e
  where
    set_back : (xs : List (List Bool)) (i : ℕ) (x : List Bool) → slice_get xs i ≡ Some x → set xs i x ≡ xs
    set_back [] i x e = refl
    set_back (y ∷ xs) zero x e = ap (λ z. z ∷ xs) (sym (some_is y x e))
      where
        some_is : (y x : List Bool) → ◌≡◌ {A = Option (List Bool)} (Some y) (Some x) → y ≡ x
        some_is y x e = cc
    set_back (y ∷ xs) (suc i) x e = ap (λ zs. y ∷ zs) (set_back xs i x e)

-- empty rows have no bit
pub none_busy : (count : ℕ) → replicate count false ≡ map has_bits (replicate count [])
none_busy zero = refl
none_busy (suc count) = ap (λ bs. false ∷ bs) (none_busy count)

-- where no row has a bit, none is set
pub none_counted : (rows : List (List Bool))
    → (count_by (λ b. b) (map has_bits rows) == 0) ≡ (bit_count rows == 0)
none_counted [] = refl
none_counted (r ∷ rows) = by_row (count_by (λ b. b) r) refl (none_counted rows)
  where
    more : (bs : List Bool) (b : Bool) → count_by (λ b. b) (b ∷ bs) ≡ as_number b + count_by (λ b. b) bs
    more bs b = sum_by-cons (λ b. cond b 1 0) b bs

    by_row : (n : ℕ) → count_by (λ b. b) r ≡ n
        → (count_by (λ b. b) (map has_bits rows) == 0) ≡ (bit_count rows == 0)
        → (count_by (λ b. b) (has_bits r ∷ map has_bits rows) == 0) ≡ (bit_count (r ∷ rows) == 0)
    by_row zero e h =
        let here : as_number (has_bits r) ≡ 0 = ap (λ n. as_number (not (n == 0))) e in
        let busy : count_by (λ b. b) (has_bits r ∷ map has_bits rows) ≡ count_by (λ b. b) (map has_bits rows) =
        omega (arith, more (map has_bits rows) (has_bits r), here) in
        let bits : bit_count (r ∷ rows) ≡ bit_count rows =
        omega (arith, sum_by-cons (count_by (λ b. b)) r rows, e) in
        ap (λ n. n == 0) busy ∙ h ∙ ap (λ n. n == 0) (sym bits)
    by_row (suc n) e h =
        let here : as_number (has_bits r) ≡ 1 = ap (λ n. as_number (not (n == 0))) e ∙ one n in
        let busy : 0 < count_by (λ b. b) (has_bits r ∷ map has_bits rows) =
        omega (arith, more (map has_bits rows) (has_bits r), here) in
        let bits : 0 < bit_count (r ∷ rows) = omega (arith, sum_by-cons (count_by (λ b. b)) r rows, e) in
        positive _ busy ∙ sym (positive _ bits)
      where
        positive : (n : ℕ) → 0 < n → (n == 0) ≡ false
        positive n m = grind (arith, nat_tests)

        one : (n : ℕ) → as_number (not (suc n == 0)) ≡ 1
        one n = ap (λ b. as_number (not b)) (positive (suc n) (omega arith))
