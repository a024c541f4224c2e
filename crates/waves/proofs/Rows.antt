-- The bits of bitmaps.
use Rattle.std.proofs.Common.{◌≡◌, ◌≢◌, ℕ, zero, suc, ◌+◌, ◌-◌, ◌/◌, ◌%◌, ◌<◌, true, false, Bool}
use Rattle.std.proofs.Common.{List, [], ◌∷◌, get_or, set, Option, Some, None, refl, sym, ◌∙◌, ap, arith}
use Rattle.std.specs.List.{slice_get}
use Rattle.model.specs.Bits.{of_page, bit_at, put_bit, with_bit}
use Rattle.model.specs.States.{change_at, change_found}
use Rattle.page.proofs.Untouched.{parted}
use Rattle.drains.proofs.Bits.{bit_stays, bit_read}

-- ---- bits

row_read : (row : List Bool) (k : ℕ) → get_or row k false ≡ true → slice_get row k ≡ Some true
row_read [] k e = absurd (cc)
row_read (b ∷ bs) zero e = ap Some e
row_read (b ∷ bs) (suc k) e = row_read bs k e

pub bit_set : (rows : List (List Bool)) (w a b : ℕ) → bit_at rows w a ≡ true → bit_at (with_bit rows w b true) w a ≡ true
bit_set rows w a b e =
    bit_read (with_bit rows w b true) w a true (bit_stays rows w a b (row_read (of_page rows (a / w)) (a % w) e))

pub row_other : (row : List Bool) (o k : ℕ) (v : Bool) → k ≢ o → get_or (set row o v) k false ≡ get_or row k false
row_other [] o k v d = refl
row_other (b ∷ bs) zero zero v d = absurd (d refl)
row_other (b ∷ bs) zero (suc k) v d = refl
row_other (b ∷ bs) (suc o) zero v d = refl
row_other (b ∷ bs) (suc o) (suc k) v d = row_other bs o k v (λ e. d (ap suc e))

rows_set : (rows : List (List Bool)) (i n o k : ℕ) (row : List Bool) (v : Bool) → slice_get rows i ≡ Some row
    → (n ≡ i → k ≢ o)
    → get_or (get_or (set rows i (set row o v)) n []) k false ≡ get_or (get_or rows n []) k false
rows_set [] i n o k row v e d = absurd (cc)
rows_set (r ∷ rs) zero zero o k row v e d = row_other row o k v (d refl) ∙ ap (λ (x : Option (List Bool)). read x) (sym e)
  where
    read : Option (List Bool) → Bool
    read None = false
    read (Some x) = get_or x k false
rows_set (r ∷ rs) zero (suc n) o k row v e d = refl
rows_set (r ∷ rs) (suc i) zero o k row v e d = refl
rows_set (r ∷ rs) (suc i) (suc n) o k row v e d = rows_set rs i n o k row v e (λ s. d (ap suc s))

pub rows_other : (rows : List (List Bool)) (i n o k : ℕ) (v : Bool) → (n ≡ i → k ≢ o)
    → get_or (get_or (change_at rows i (put_bit o v)) n []) k false ≡ get_or (get_or rows n []) k false
rows_other rows i n o k v d = by_row (slice_get rows i) refl
  where
    by_row : (found : Option (List Bool)) → slice_get rows i ≡ found
        → get_or (get_or (change_found rows i found (put_bit o v)) n []) k false ≡ get_or (get_or rows n []) k false
    by_row None e = refl
    by_row (Some row) e = rows_set rows i n o k row v e d

same_page : (m n : ℕ) → 0 < m → suc n ≡ n + 1 → n ≡ m - 1 → suc n ≡ m
same_page m n a s e = omega (arith, a, s, e)

pub bit_other : (rows : List (List Bool)) (w a b : ℕ) (v : Bool) → 0 < a / w → 0 < b / w → b ≢ a
    → bit_at (with_bit rows w a v) w b ≡ bit_at rows w b
bit_other rows w a b v low high apart = by_page (b / w) refl high
  where
    by_page : (n : ℕ) → b / w ≡ n → 0 < n
        → get_or (of_page (change_at rows (a / w - 1) (put_bit (a % w) v)) n) (b % w) false
        ≡ get_or (of_page rows n) (b % w) false
    by_page zero e l = absurd (omega (arith, l))
    by_page (suc n) e l = rows_other rows (a / w - 1) n (a % w) (b % w) v
        (λ s f. apart (parted b a w (e ∙ same_page (a / w) n low (omega arith) s) f))

-- ---- grey objects stay grey

pub on_page : (rows : List (List Bool)) (w a : ℕ) → bit_at rows w a ≡ true → 0 < a / w
on_page rows w a e = by_page (a / w) e
  where
    by_page : (n : ℕ) → get_or (of_page rows n) (a % w) false ≡ true → 0 < n
    by_page zero f = absurd (cc)
    by_page (suc n) f = omega arith
