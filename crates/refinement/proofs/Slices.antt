-- Lists by index: a run of words, and words with others written over them.
use Rattle.std.proofs.Common.{◌≡◌, ℕ, zero, suc, ◌+◌, ◌-◌, ◌<◌, ◌≤◌, List, [], ◌∷◌, ◌++◌, length, take}
use Rattle.std.proofs.Common.{drop, Some, replicate, refl, sym, ◌∙◌, ap, ap₂, arith, length-drop}
use Rattle.std.specs.List.{slice_get}
use Rattle.std.proofs.lemmas.List.{length-take-le}
use Rattle.std.proofs.lemmas.Option.{same_Some}
use Rattle.model.specs.Stores.{overlay}
use Rattle.refinement.specs.Worlds.{run}
use Rattle.model.proofs.Lists.{same_lists}

pub get_take : {X : Type 0} (n : ℕ) (xs : List X) (i : ℕ) → i < n → slice_get (take n xs) i ≡ slice_get xs i
get_take zero xs i h = absurd (omega arith)
get_take (suc n) [] i h = refl
get_take (suc n) (x ∷ xs) zero h = refl
get_take (suc n) (x ∷ xs) (suc i) h = get_take n xs i (omega arith)

pub get_drop : {X : Type 0} (o : ℕ) (xs : List X) (i : ℕ) → slice_get (drop o xs) i ≡ slice_get xs (o + i)
get_drop o xs i = at o xs i (o + i) refl
  where
    at : {X : Type 0} (o : ℕ) (xs : List X) (i j : ℕ) → j ≡ o + i → slice_get (drop o xs) i ≡ slice_get xs j
    at zero xs i j e = ap (slice_get xs) (omega (arith, e))
    at (suc o) [] i j e = refl
    at (suc o) (x ∷ xs) i zero e = absurd (omega (arith, e))
    at (suc o) (x ∷ xs) i (suc j) e = at o xs i j (omega (arith, e))

pub get_first : {X : Type 0} (xs ys : List X) (i : ℕ) → i < length xs → slice_get (xs ++ ys) i ≡ slice_get xs i
get_first [] ys i h = absurd (omega arith)
get_first (x ∷ xs) ys zero h = refl
get_first (x ∷ xs) ys (suc i) h = get_first xs ys i (omega arith)

pub get_second : {X : Type 0} (xs ys : List X) (i : ℕ) → slice_get (xs ++ ys) (length xs + i) ≡ slice_get ys i
get_second {X} xs ys i = at xs i (length xs + i) refl
  where
    at : (xs : List X) (i j : ℕ) → j ≡ length xs + i → slice_get (xs ++ ys) j ≡ slice_get ys i
    at [] i j e = ap (slice_get ys) (omega (arith, e))
    at (x ∷ xs) i zero e = absurd (omega (arith, e))
    at (x ∷ xs) i (suc j) e = at xs i j (omega (arith, e))

pub get_run : (ws : List ℕ) (o n i : ℕ) → i < n → slice_get (run ws o n) i ≡ slice_get ws (o + i)
get_run ws o n i h = get_take n (drop o ws) i h ∙ get_drop o ws i

pub length_run : (ws : List ℕ) (o n : ℕ) → o + n ≤ length ws → length (run ws o n) ≡ n
length_run ws o n h = length-take-le n (drop o ws) (omega (arith, length-drop o ws))

-- words agree from one place up to another
abbrev pub Agree : List ℕ → List ℕ → ℕ → ℕ → Type 0
Agree vs ws low high = (i : ℕ) → low ≤ i → i < high → slice_get vs i ≡ slice_get ws i

pub run_same : (ws vs : List ℕ) (o n : ℕ) → length vs ≡ length ws → o + n ≤ length ws → Agree vs ws o (o + n)
    → run vs o n ≡ run ws o n
run_same ws vs o n e h agree =
    same_lists (run vs o n) (run ws o n) (length_run vs o n (omega (arith, e, h)) ∙ sym (length_run ws o n h))
    (λ i l. let m : i < n = omega (arith, l, length_run vs o n (omega (arith, e, h))) in
    get_run vs o n i m ∙ agree (o + i) (omega arith) (omega (arith, m)) ∙ sym (get_run ws o n i m))

-- a run of equal words
pub run_all : (ws : List ℕ) (o n v : ℕ) → o + n ≤ length ws → ((i : ℕ) → i < n → slice_get ws (o + i) ≡ Some v)
    → run ws o n ≡ replicate n v
run_all ws o n v h k = all n (run ws o n) (length_run ws o n h) (λ i l. get_run ws o n i l ∙ k i l)
  where
    all : (n : ℕ) (xs : List ℕ) → length xs ≡ n → ((i : ℕ) → i < n → slice_get xs i ≡ Some v) → xs ≡ replicate n v
    all zero [] e f = refl
    all zero (x ∷ xs) e f = absurd (omega (arith, e))
    all (suc n) [] e f = absurd (omega (arith, e))
    all (suc n) (x ∷ xs) e f = ap₂ (λ z zs. z ∷ zs) (same_Some _ _ (f zero (omega arith)))
        (all n xs (omega (arith, e)) (λ i l. f (suc i) (omega (arith, l))))

-- words with others written over them

overlaid_at : (ws xs : List ℕ) (o i : ℕ) → i < length ws
    → slice_get (overlay ws o xs) i ≡ slice_get (take o ws ++ (xs ++ drop (length xs) (drop o ws))) i
overlaid_at ws xs o i h = get_take (length ws) (take o ws ++ (xs ++ drop (length xs) (drop o ws))) i h

-- among the others, theirs
pub overlaid_in : (ws xs : List ℕ) (o i : ℕ) → o + length xs ≤ length ws → i < length xs
    → slice_get (overlay ws o xs) (o + i) ≡ slice_get xs i
overlaid_in ws xs o i h l =
    let size : length (take o ws) ≡ o = length-take-le o ws (omega arith) in
    let place : o + i ≡ length (take o ws) + i = ap (λ n. n + i) (sym size) in
    overlaid_at ws xs o (o + i) (omega arith)
    ∙ ap (slice_get (take o ws ++ (xs ++ drop (length xs) (drop o ws)))) place
    ∙ get_second (take o ws) (xs ++ drop (length xs) (drop o ws)) i
    ∙ get_first xs (drop (length xs) (drop o ws)) i l

-- before them, the old ones
pub overlaid_before : (ws xs : List ℕ) (o i : ℕ) → o + length xs ≤ length ws → i < o
    → slice_get (overlay ws o xs) i ≡ slice_get ws i
overlaid_before ws xs o i h l =
    let size : length (take o ws) ≡ o = length-take-le o ws (omega arith) in
    overlaid_at ws xs o i (omega arith)
    ∙ get_first (take o ws) (xs ++ drop (length xs) (drop o ws)) i (omega (arith, size, l)) ∙ get_take o ws i l

-- after them, the old ones
pub overlaid_behind : (ws xs : List ℕ) (o i : ℕ) → o + length xs ≤ length ws → o + length xs ≤ i → i < length ws
    → slice_get (overlay ws o xs) i ≡ slice_get ws i
overlaid_behind ws xs o i h l m =
    let size : length (take o ws) ≡ o = length-take-le o ws (omega arith) in
    let rest : List ℕ = drop (length xs) (drop o ws) in
    let j : ℕ = i - o - length xs in
    let first : i ≡ length (take o ws) + (length xs + j) = omega (arith, size, l) in
    let back : o + (length xs + j) ≡ i = omega (arith, l) in
    overlaid_at ws xs o i m ∙ ap (slice_get (take o ws ++ (xs ++ rest))) first
    ∙ get_second (take o ws) (xs ++ rest) (length xs + j) ∙ get_second xs rest j
    ∙ get_drop (length xs) (drop o ws) j ∙ get_drop o ws (length xs + j) ∙ ap (slice_get ws) back
