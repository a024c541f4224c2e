-- Lists that are made one number after another.
use Rattle.std.proofs.Common.{◌≡◌, ℕ, zero, suc, ◌+◌, Bool, true, false, cond, List, [], ◌∷◌, ◌++◌, take, Some, filter}
use Rattle.std.proofs.Common.{map, append-nil}
use Rattle.std.proofs.Common.{sym, ◌∙◌, ap, arith}
use Rattle.std.specs.List.{range_with_len, slice_get}
use Rattle.std.proofs.lemmas.List.{take_more}
use Rattle.std.proofs.lemmas.Option.{get_or_from_slice_get}
use Rattle.std.proofs.lemmas.Option.{slice_get_within}
use Rattle.std.proofs.lemmas.List.Elements.{filter-append}
use Rattle.std.proofs.lemmas.List.FromFn.{map-range_with_len_more}

-- a longer range has one number more at its end
range_more : (a n : ℕ) → range_with_len a (suc n) ≡ range_with_len a n ++ (a + n) ∷ []
range_more a zero = ap (λ m. m ∷ []) (is a)
  where
    is : (a : ℕ) → a ≡ a + 0
    is a = omega arith
range_more a (suc n) =
    ap (λ xs. a ∷ xs) (range_more (a + 1) n ∙ ap (λ m. range_with_len (a + 1) n ++ m ∷ []) (is a n))
  where
    is : (a n : ℕ) → a + 1 + n ≡ a + suc n
    is a n = omega arith

filtered_more : (p : ℕ → Bool) (n : ℕ)
    → filter p (range_with_len 0 (n + 1)) ≡ filter p (range_with_len 0 n) ++ filter p (n ∷ [])
filtered_more p n = ap (λ m. filter p (range_with_len 0 m)) (is n) ∙ ap (filter p) (range_more 0 n)
    ∙ ap (λ m. filter p (range_with_len 0 n ++ m ∷ [])) (same n) ∙ filter-append p (range_with_len 0 n) (n ∷ [])
  where
    is : (n : ℕ) → n + 1 ≡ suc n
    is n = omega arith

    same : (n : ℕ) → 0 + n ≡ n
    same n = omega arith

-- a number is kept if it passes the test
pub one_kept : (p : ℕ → Bool) (n : ℕ) (kept now : List ℕ) → p n ≡ true → kept ≡ filter p (range_with_len 0 n)
    → now ≡ kept ++ n ∷ [] → now ≡ filter p (range_with_len 0 (n + 1))
one_kept p n kept now e h k = k ∙ ap (λ xs. xs ++ n ∷ []) h
    ∙ ap (λ b. filter p (range_with_len 0 n) ++ cond b (n ∷ []) []) (sym e) ∙ sym (filtered_more p n)

-- else it is left out
pub one_left_out : (p : ℕ → Bool) (n : ℕ) (kept : List ℕ) → p n ≡ false → kept ≡ filter p (range_with_len 0 n)
    → kept ≡ filter p (range_with_len 0 (n + 1))
one_left_out p n kept e h = h ∙ sym (append-nil (filter p (range_with_len 0 n)))
    ∙ ap (λ b. filter p (range_with_len 0 n) ++ cond b (n ∷ []) []) (sym e) ∙ sym (filtered_more p n)

-- numbers that are mapped, from 1 on
pub mapped_more : {X : Type 0} (f : ℕ → X) (n : ℕ)
    → map f (range_with_len 1 (n + 1)) ≡ map f (range_with_len 1 n) ++ f (n + 1) ∷ []
mapped_more f n = map-range_with_len_more f 1 n (n + 1) (is n)
  where
    is : (n : ℕ) → 1 + n ≡ n + 1
    is n = omega arith

-- the next element is taken
pub taken_more : (xs done new : List (List ℕ)) (i : ℕ) (x y : List ℕ) → slice_get xs i ≡ Some x → done ≡ take i xs
    → new ≡ done ++ y ∷ [] → y ≡ x → new ≡ take (i + 1) xs
taken_more xs done new i x y at so_far put same =
    put ∙ ap (λ zs. zs ++ y ∷ []) so_far
    ∙ ap (λ z. take i xs ++ z ∷ []) (same ∙ sym (get_or_from_slice_get xs i x x at))
    ∙ sym (take_more xs i x (slice_get_within xs i x at))
