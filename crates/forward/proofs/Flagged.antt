-- Flags, of which the first ones are set without a bit.
use Rattle.std.proofs.Common.{◌≡◌, ◌⊎◌, inl, inr, ℕ, zero, suc, ◌+◌, ◌<◌, ◌≤◌, Bool, true, false, cond}
use Rattle.std.proofs.Common.{List, [], ◌∷◌, ◌++◌, length, replicate, drop, set, get_or, count_by, refl, sym, ◌∙◌, ap}
use Rattle.std.proofs.Common.{arith}
use Rattle.std.proofs.Math.Nat.{eq-or-lt_of_le}
use Rattle.std.proofs.lemmas.List.Sums.{sum_by-cons}
use Rattle.forward.specs.Flags.{flags_of, AreFlags, put_run}

-- a flag

pub flag_below : (d i : ℕ) (row : List Bool) → i < d → true ≡ get_or (flags_of d row) i false
unfolding flags_of
flag_below zero i row l = absurd (omega (arith, l))
flag_below (suc d) zero row l = refl
flag_below (suc d) (suc i) [] l = flag_below d i [] (omega (arith, l)) ∙ ap (λ xs. get_or (replicate d true ++ xs) i false) (none d)
  where
    none : (d : ℕ) → drop {A = Bool} d [] ≡ []
    none zero = refl
    none (suc d) = refl
flag_below (suc d) (suc i) (b ∷ row) l = flag_below d i row (omega (arith, l))

pub flag_above : (d i : ℕ) (row : List Bool) → d ≤ length row → d ≤ i → get_or row i false ≡ get_or (flags_of d row) i false
unfolding flags_of
flag_above zero i row w l = refl
flag_above (suc d) i [] w l = absurd (omega (arith, w))
flag_above (suc d) zero (b ∷ row) w l = absurd (omega (arith, l))
flag_above (suc d) (suc i) (b ∷ row) w l = flag_above d i row (omega (arith, w)) (omega (arith, l))

-- a flag is set

pub set_below : (d i : ℕ) (row : List Bool) → i < d → flags_of d row ≡ set (flags_of d row) i true
unfolding flags_of
set_below zero i row l = absurd (omega (arith, l))
set_below (suc d) zero row l = refl
set_below (suc d) (suc i) [] l = ap (λ xs. true ∷ xs) (again (drop (suc d) []) d i (omega (arith, l)))
  where
    again : (xs : List Bool) (d i : ℕ) → i < d → replicate d true ++ xs ≡ set (replicate d true ++ xs) i true
    again xs zero i l = absurd (omega (arith, l))
    again xs (suc d) zero l = refl
    again xs (suc d) (suc i) l = ap (λ ys. true ∷ ys) (again xs d i (omega (arith, l)))
set_below (suc d) (suc i) (b ∷ row) l = ap (λ xs. true ∷ xs) (set_below d i row (omega (arith, l)))

pub set_above : (d i : ℕ) (row : List Bool) → d ≤ length row → d ≤ i
    → flags_of d (set row i true) ≡ set (flags_of d row) i true
unfolding flags_of
set_above zero i row w l = refl
set_above (suc d) i [] w l = absurd (omega (arith, w))
set_above (suc d) zero (b ∷ row) w l = absurd (omega (arith, l))
set_above (suc d) (suc i) (b ∷ row) w l = ap (λ xs. true ∷ xs) (set_above d i row (omega (arith, w)) (omega (arith, l)))

-- a run of them

pub run_more : (i j k m : ℕ) (flags : List Bool) → k ≡ suc m → j ≡ i + 1
    → put_run i k flags ≡ put_run j m (set flags i true)
run_more i j k m flags a b = ap (λ n. put_run i n flags) a ∙ ap (λ n. put_run n m (set flags i true)) (sym b)

-- those that are set already
pub run_below : (d i k : ℕ) (row : List Bool) → i + k ≤ d → flags_of d row ≡ put_run i k (flags_of d row)
run_below d i zero row l = refl
run_below d i (suc k) row l =
    run_below d (i + 1) k row (omega (arith, l)) ∙ ap (put_run (i + 1) k) (set_below d i row (omega (arith, l)))

-- the first one that isn't set, where none is after it
set_next : (d n : ℕ) → d < n → flags_of (suc d) (replicate n false) ≡ set (flags_of d (replicate n false)) d true
unfolding flags_of
set_next zero zero l = absurd (omega (arith, l))
set_next zero (suc n) l = refl
set_next (suc d) zero l = absurd (omega (arith, l))
set_next (suc d) (suc n) l = ap (λ xs. true ∷ xs) (set_next d n (omega (arith, l)))

run_next : (n d i k : ℕ) → i ≤ d → d < i + k → i + k ≤ n
    → flags_of (i + k) (replicate n false) ≡ put_run i k (flags_of d (replicate n false))
run_next n d i zero low over fits = absurd (omega (arith, low, over))
run_next n d i (suc k) low over fits =
    ap (λ m. flags_of m (replicate n false)) sum ∙ by_place (eq-or-lt_of_le low)
    (λ less. run_next n d (i + 1) k (omega (arith, less)) (omega (arith, over)) (omega (arith, fits)))
    (λ more. run_next n (i + 1) (i + 1) k (omega arith) (omega (arith, more)) (omega (arith, fits)))
  where
    flags : List Bool
    flags = flags_of d (replicate n false)

    sum : i + suc k ≡ (i + 1) + k
    sum = omega arith

    one : i ≡ d → flags_of (i + 1) (replicate n false) ≡ set flags i true
    one same =
        let next : i + 1 ≡ suc d = omega (arith, same) in
        ap (λ m. flags_of m (replicate n false)) next ∙ set_next d n (omega (arith, over, fits, same))
        ∙ ap (λ m. set flags m true) (sym same)

    by_rest : (k : ℕ) → i ≡ d
        → (0 < k → flags_of ((i + 1) + k) (replicate n false)
        ≡ put_run (i + 1) k (flags_of (i + 1) (replicate n false)))
        → flags_of ((i + 1) + k) (replicate n false) ≡ put_run (i + 1) k (set flags i true)
    by_rest zero same rest =
        let none : (i + 1) + 0 ≡ i + 1 = omega arith in
        ap (λ m. flags_of m (replicate n false)) none ∙ one same
    by_rest (suc k) same rest = rest (omega arith) ∙ ap (put_run (i + 1) (suc k)) (one same)

    by_place : (i ≡ d) ⊎ (i < d)
        → (i < d → flags_of ((i + 1) + k) (replicate n false) ≡ put_run (i + 1) k flags)
        → (0 < k → flags_of ((i + 1) + k) (replicate n false)
        ≡ put_run (i + 1) k (flags_of (i + 1) (replicate n false)))
        → flags_of ((i + 1) + k) (replicate n false) ≡ put_run (i + 1) k (set flags i true)
    by_place (inl same) below rest = by_rest k same rest
    by_place (inr less) below rest =
        below less ∙ ap (put_run (i + 1) k) (set_below d i (replicate n false) less)

-- no flag is set
all_clear : (row : List Bool) → count_by (λ b. b) row ≡ 0 → row ≡ replicate (length row) false
all_clear [] none = refl
all_clear (true ∷ row) none = absurd (omega (arith, none, sum_by-cons (λ b. cond b 1 0) true row))
all_clear (false ∷ row) none =
    ap (λ xs. false ∷ xs) (all_clear row (omega (arith, none, sum_by-cons (λ b. cond b 1 0) false row)))

-- all at once
pub run_over : (d e i k : ℕ) (row : List Bool) → count_by (λ b. b) row ≡ 0 → e ≡ i + k → i ≤ d → d < e
    → e ≤ length row → flags_of e row ≡ put_run i k (flags_of d row)
run_over d e i k row none end low over fits =
    let blank : row ≡ replicate (length row) false = all_clear row none in
    ap (λ m. flags_of m row) end ∙ ap (flags_of (i + k)) blank
    ∙ run_next (length row) d i k low (omega (arith, over, end)) (omega (arith, fits, end))
    ∙ ap (λ r. put_run i k (flags_of d r)) (sym blank)

-- how many are set
pub flags_counted : (d : ℕ) (row : List Bool) → AreFlags d row
    → d + count_by (λ b. b) row ≡ count_by (λ b. b) (flags_of d row)
unfolding flags_of
flags_counted d row is = counted d row is.within is.clear
  where
    one : Bool → ℕ
    one b = cond b 1 0

    counted : (d : ℕ) (row : List Bool) → d ≤ length row → ((i : ℕ) → i < d → get_or row i false ≡ false)
        → d + count_by (λ b. b) row ≡ count_by (λ b. b) (replicate d true ++ drop d row)
    counted zero row l c = omega arith
    counted (suc d) [] l c = absurd (omega (arith, l))
    counted (suc d) (b ∷ row) l c =
        let first : one b ≡ 0 = ap one (c 0 (omega arith)) in
        omega (
          arith,
          first,
          sum_by-cons one b row,
          sum_by-cons one true (replicate d true ++ drop d row),
          counted d row (omega (arith, l)) (λ i low. c (suc i) (omega (arith, low))),
        )
