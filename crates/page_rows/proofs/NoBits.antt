-- Bitmaps of which no bit is set.
use Rattle.std.proofs.Common.{◌≡◌, ℕ, zero, suc, ◌-◌, ◌/◌, ◌%◌, Bool, true, false, List, [], ◌∷◌, Option, None, Some}
use Rattle.std.proofs.Common.{set, count_by, refl, arith, ◌∙◌, sym, ap, subst}
use Rattle.std.specs.List.{slice_get}
use Rattle.std.specs.Prelude.{◌==◌}
use Rattle.std.proofs.lemmas.Bool.Decides.{nat_tests}
use Rattle.std.proofs.lemmas.List.{set-get_or}
use Rattle.std.proofs.lemmas.List.Sums.{sum_by-cons}
use Rattle.std.proofs.lemmas.Option.{same_Some}
use Rattle.model.specs.States.{change_at, change_found}
use Rattle.model.specs.Bits.{bit_count, put_bit, with_bit}
use Rattle.model.proofs.Lists.{none_counted}
use Rattle.page.proofs.Copied.{same_set}

none_in : (rows : List (List Bool)) (i : ℕ) (row : List Bool) → bit_count rows ≡ 0 → slice_get rows i ≡ Some row
    → count_by (λ b. b) row ≡ 0
none_in [] i row e f = absurd (cc)
none_in (r ∷ rows) zero row e f =
    sym (ap (count_by (λ b. b)) (same_Some _ _ f)) ∙ omega (arith, e, sum_by-cons (count_by (λ b. b)) r rows)
none_in (r ∷ rows) (suc i) row e f =
    none_in rows i row (omega (arith, e, sum_by-cons (count_by (λ b. b)) r rows)) f

none_cleared : (rows : List (List Bool)) (i o : ℕ) → bit_count rows ≡ 0 → change_at rows i (put_bit o false) ≡ rows
none_cleared rows i o e = by_row (slice_get rows i) refl
  where
    by_row : (x : Option (List Bool)) → slice_get rows i ≡ x → change_found rows i x (put_bit o false) ≡ rows
    by_row None f = refl
    by_row (Some row) f = ap (set rows i) (subst (λ b. set row o b ≡ row)
        (none_counted row (none_in rows i row e f) o) (set-get_or row o false)) ∙ same_set rows i row f

no_bits : (n : ℕ) → (n == 0) ≡ true → n ≡ 0
no_bits n e = grind (arith, nat_tests)

-- the bit of an address
pub all_clear : (rows : List (List Bool)) (words a : ℕ) (empty : Bool) → empty ≡ (bit_count rows == 0) → empty ≡ true
    → rows ≡ with_bit rows words a false
all_clear rows words a empty is e =
    sym (none_cleared rows (a / words - 1) (a % words) (no_bits (bit_count rows) (sym is ∙ e)))
