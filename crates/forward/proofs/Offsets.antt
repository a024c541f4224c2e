-- The offsets of set bits are found one after another, and the sizes of objects that begin at them.
use Rattle.std.proofs.Common.{◌≡◌, ℕ, zero, suc, ◌+◌, ◌<◌, ◌≤◌, Bool, true, false, List, [], ◌∷◌, ◌++◌, map}
use Rattle.std.proofs.Common.{drop, get_or, length, refl, sym, ◌∙◌, ap, ap₂, arith}
use Rattle.std.specs.Prelude.{count_by}
use Rattle.std.proofs.lemmas.Bool.{true≢false}
use Rattle.std.proofs.lemmas.List.{append-nil, append_assoc, length-map}
use Rattle.forward.proofs.Ranked.{offsets_many}
use Rattle.markbits.specs.Words.{IsFirstFrom}
use Rattle.model.specs.Plans.{offsets_from}

-- from a place on, the first set bit comes before those after it
offsets_next : (row : List Bool) (o a c d i k : ℕ) → a ≡ o + i → c ≡ o + k → d ≡ o + suc k → i ≤ k
    → get_or row k false ≡ true → ((j : ℕ) → i ≤ j → j < k → get_or row j false ≡ false)
    → offsets_from a (drop i row) ≡ c ∷ offsets_from d (drop (suc k) row)
offsets_next [] o a c d i k p q r l here before = absurd (true≢false (sym here))
offsets_next (true ∷ row) o a c d zero zero p q r l here before =
    let first : a ≡ c = omega (arith, p, q) in
    let next : a + 1 ≡ d = omega (arith, p, r) in
    ap₂ (λ x y. x ∷ offsets_from y row) first next
offsets_next (false ∷ row) o a c d zero zero p q r l here before = absurd (true≢false (sym here))
offsets_next (true ∷ row) o a c d zero (suc k) p q r l here before =
    absurd (true≢false (before zero (omega arith) (omega arith)))
offsets_next (false ∷ row) o a c d zero (suc k) p q r l here before =
    offsets_next row (o + 1) (a + 1) c d zero k (omega (arith, p)) (omega (arith, q)) (omega (arith, r)) (omega arith)
    here
    (λ j x y. before (suc j) (omega (arith, x)) (omega (arith, y)))
offsets_next (b ∷ row) o a c d (suc i) zero p q r l here before = absurd (omega (arith, l))
offsets_next (b ∷ row) o a c d (suc i) (suc k) p q r l here before =
    offsets_next row (o + 1) a c d i k (omega (arith, p)) (omega (arith, q)) (omega (arith, r)) (omega (arith, l)) here
    (λ j x y. before (suc j) (omega (arith, x)) (omega (arith, y)))

-- if no bit is set from a place on, there are no offsets
offsets_none : (row : List Bool) (a i : ℕ) → ((j : ℕ) → i ≤ j → get_or row j false ≡ false)
    → offsets_from a (drop i row) ≡ []
offsets_none [] a zero none = refl
offsets_none [] a (suc i) none = refl
offsets_none (true ∷ row) a zero none = absurd (true≢false (none zero (omega arith)))
offsets_none (false ∷ row) a zero none = offsets_none row (a + 1) zero (λ j x. none (suc j) (omega (arith, x)))
offsets_none (b ∷ row) a (suc i) none = offsets_none row a i (λ j x. none (suc j) (omega (arith, x)))

-- the offsets that are left after a place that was found
pub left_next : (bits : List Bool) (i k : ℕ) → IsFirstFrom bits i k
    → offsets_from i (drop i bits) ≡ k ∷ offsets_from (k + 1) (drop (k + 1) bits)
left_next bits i k f =
    let is : suc k ≡ k + 1 = omega arith in
    offsets_next bits 0 i k (suc k) i k (omega arith) (omega arith) (omega arith) f.low f.here f.before
    ∙ ap (λ n. k ∷ offsets_from n (drop n bits)) is

pub left_none : (bits : List Bool) (i : ℕ) → ((j : ℕ) → i ≤ j → get_or bits j false ≡ false)
    → offsets_from i (drop i bits) ≡ []
left_none bits i none = offsets_none bits i i none

-- there is a size for each set bit
pub sized_many : (f : ℕ → ℕ) (row : List Bool) → length (map f (offsets_from 0 row)) ≡ count_by (λ b. b) row
sized_many f row = length-map (offsets_from 0 row) f ∙ offsets_many 0 row

-- the size of one more object is known
pub sized_next : (f : ℕ → ℕ) (sizes more whole left rest : List ℕ) (k n : ℕ) → left ≡ k ∷ rest → n ≡ f k
    → more ≡ sizes ++ n ∷ [] → sizes ++ map f left ≡ whole → more ++ map f rest ≡ whole
sized_next f sizes more whole left rest k n is size put so_far =
    ap (λ xs. xs ++ map f rest) put ∙ append_assoc sizes (n ∷ []) (map f rest)
    ∙ ap (λ m. sizes ++ m ∷ map f rest) size ∙ ap (λ xs. sizes ++ map f xs) (sym is) ∙ so_far

-- none is left
pub sized_all : (f : ℕ → ℕ) (sizes whole left : List ℕ) → left ≡ [] → sizes ++ map f left ≡ whole → sizes ≡ whole
sized_all f sizes whole left none so_far =
    sym (append-nil sizes) ∙ ap (λ xs. sizes ++ map f xs) (sym none) ∙ so_far
