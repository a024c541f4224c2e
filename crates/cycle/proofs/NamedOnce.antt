-- Pages of a rising list are different.
use Rattle.std.proofs.Common.{◌≡◌, ℕ, ◌≤◌, ◌||◌, true, false, List, [], ◌∷◌, length, nat_lt, refl, sym, ap}
use Rattle.std.proofs.Common.{arith}
use Rattle.std.specs.Prelude.{◌==◌}
use Rattle.std.specs.List.{list_any}
use Rattle.std.proofs.lemmas.Bool.{and_parts, or_from, ltb-true, ne_eqb}
use Rattle.model.specs.States.{HeapState}
use Rattle.model.specs.Protections.{has_twice, no_page_in, are_bad_pages}
use Rattle.cycle.specs.Rising.{rises_above}

-- a number isn't in a list that rises above it
not_among : (n m : ℕ) (ms : List ℕ) → n ≤ m → rises_above m ms ≡ true → list_any (λ k. k == n) ms ≡ false
not_among n m [] low rises = refl
not_among n m (k ∷ ks) low rises =
    let parts = and_parts (nat_lt m k) (rises_above k ks) rises in
    let above = ltb-true m k parts.0 in
    or_from (k == n) (list_any (λ j. j == n) ks) (ne_eqb k n (λ e. omega (arith, above, low, e)))
    (not_among n k ks (omega (arith, above, low)) parts.1)

pub rising_once : (n : ℕ) (ns : List ℕ) → rises_above n ns ≡ true → has_twice ns ≡ false
rising_once n [] rises = refl
rising_once n (m ∷ ms) rises =
    let parts = and_parts (nat_lt n m) (rises_above m ms) rises in
    or_from (list_any (λ k. k == m) ms) (has_twice ms) (not_among m m ms (omega arith) parts.1)
    (rising_once m ms parts.1)

-- the tests of a list of pages, in their order
pub bad_by_parts : (h : HeapState) (pages : List ℕ)
    → are_bad_pages h pages ≡ ((length pages == 0) || (list_any (no_page_in h.store) pages || has_twice pages))
bad_by_parts h [] = refl
bad_by_parts h (n ∷ ns) =
    ap (λ b. b || (list_any (no_page_in h.store) (n ∷ ns) || has_twice (n ∷ ns)))
    (sym (ne_eqb (length (n ∷ ns)) 0 (λ e. omega (arith, e))))
