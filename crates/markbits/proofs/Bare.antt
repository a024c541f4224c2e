-- Clearing a bit if none is set.
use Rattle.std.proofs.Common.{◌≡◌, ℕ, zero, suc, Bool, true, false, List, [], ◌∷◌, Option, Some, None, refl, sym, ◌∙◌}
use Rattle.std.proofs.Common.{ap, subst, arith, count_by, set}
use Rattle.std.specs.List.{slice_get}
use Rattle.std.specs.Prelude.{◌==◌}
use Rattle.std.proofs.lemmas.Bool.Decides.{nat_tests}
use Rattle.std.proofs.lemmas.List.{set-get_or}
use Rattle.std.proofs.lemmas.List.Sums.{sum_by-cons}
use Rattle.std.proofs.lemmas.Option.{same_Some}
use Rattle.sequences.specs.Elements.{change_at, change_found}
use Rattle.sequences.specs.Bits.{bit_count, put_bit}
use Rattle.sequences.proofs.Elements.{none_counted}
use Rattle.markbits.proofs.Busy.{put_again}

-- in a row that counts none
pub bare_unset : (row : List Bool) (total o : ℕ) → total ≡ count_by (λ b. b) row → total ≡ 0 → row ≡ put_bit o false row
bare_unset row total o e z =
    sym (subst (λ b. set row o b ≡ row) (none_counted row (sym e ∙ z) o) (set-get_or row o false))

row_of_none : (rows : List (List Bool)) (i : ℕ) (row : List Bool) → bit_count rows ≡ 0 → slice_get rows i ≡ Some row
    → count_by (λ b. b) row ≡ 0
row_of_none [] i row e g = absurd (cc)
row_of_none (r ∷ rows) zero row e g =
    let here : count_by (λ b. b) r ≡ count_by (λ b. b) row = ap (count_by (λ b. b)) (same_Some _ _ g) in
    omega (arith, sum_by-cons (count_by (λ b. b)) r rows, e, here)
row_of_none (r ∷ rows) (suc i) row e g =
    row_of_none rows i row (omega (arith, sum_by-cons (count_by (λ b. b)) r rows, e)) g

-- in rows that count none together
pub none_unset : (rows : List (List Bool)) (i o : ℕ) (empty : Bool) → empty ≡ (bit_count rows == 0) → empty ≡ true
    → rows ≡ change_at rows i (put_bit o false)
none_unset rows i o empty e t = by_row (slice_get rows i) refl
  where
    is_zero : (n : ℕ) → (n == 0) ≡ true → n ≡ 0
    is_zero n k = grind (arith, nat_tests)

    by_row : (r : Option (List Bool)) → slice_get rows i ≡ r → rows ≡ change_at rows i (put_bit o false)
    by_row None g = sym (ap (λ r. change_found rows i r (put_bit o false)) g)
    by_row (Some row) g =
        let none : count_by (λ b. b) row ≡ 0 = row_of_none rows i row (is_zero _ (sym e ∙ t)) g in
        sym (put_again rows i o false row g (none_counted row none o))
