-- Words that are written over others.
use Rattle.std.proofs.Common.{◌≡◌, ℕ, zero, suc, ◌+◌, ◌-◌, ◌≤◌, List, [], ◌∷◌, ◌++◌, length, take, drop, refl, sym, ap}
use Rattle.std.proofs.Common.{◌∙◌, subst, ◌<◌, arith}
use Rattle.std.proofs.Math.ListN.{drop_of_length-le}
use Rattle.std.proofs.Math.Seq.{take-length}
use Rattle.std.proofs.lemmas.List.{append-nil}
use Rattle.model.specs.Stores.{overlay}

-- nothing is written past the end
pub overlaid_past : (ws : List ℕ) (o : ℕ) (xs : List ℕ) → length ws ≤ o → ws ≡ overlay ws o xs
overlaid_past [] o xs h = refl
overlaid_past (w ∷ ws) zero xs h = absurd (omega (arith, h))
overlaid_past (w ∷ ws) (suc o) xs h = ap (λ l. w ∷ l) (overlaid_past ws o xs (omega (arith, h)))

-- words that fit are there completely
pub overlaid_whole : (ws : List ℕ) (o : ℕ) (xs : List ℕ) → o + length xs ≤ length ws
    → overlay ws o xs ≡ take o ws ++ (xs ++ drop (length xs) (drop o ws))
overlaid_whole [] zero [] h = refl
overlaid_whole [] zero (x ∷ xs) h = absurd (omega (arith, h))
overlaid_whole [] (suc o) xs h = absurd (omega (arith, h))
overlaid_whole (w ∷ ws) zero [] h = take-length (w ∷ ws)
overlaid_whole (w ∷ ws) zero (x ∷ xs) h = ap (λ l. x ∷ l) (overlaid_whole ws zero xs (omega (arith, h)))
overlaid_whole (w ∷ ws) (suc o) xs h = ap (λ l. w ∷ l) (overlaid_whole ws o xs (omega (arith, h)))

-- what goes past the end is left out
pub overlaid_cut : (ws : List ℕ) (o : ℕ) (xs : List ℕ) (n : ℕ) → n ≡ length ws - o
    → overlay ws o (take n xs) ≡ overlay ws o xs
overlaid_cut [] o xs n e = refl
overlaid_cut (w ∷ ws) zero [] zero e = refl
overlaid_cut (w ∷ ws) zero [] (suc n) e = refl
overlaid_cut (w ∷ ws) zero (x ∷ xs) zero e = absurd (omega (arith, e))
overlaid_cut (w ∷ ws) zero (x ∷ xs) (suc n) e = ap (λ l. x ∷ l) (overlaid_cut ws zero xs n (omega (arith, e)))
overlaid_cut (w ∷ ws) (suc o) xs n e = ap (λ l. w ∷ l) (overlaid_cut ws o xs n (omega (arith, e)))

-- words in the front part don't change the back part
pub overlaid_front : (a b : List ℕ) (o : ℕ) (xs : List ℕ) → o + length xs ≤ length a
    → overlay (a ++ b) o xs ≡ overlay a o xs ++ b
overlaid_front [] b zero [] h = take-length b
overlaid_front [] b zero (x ∷ xs) h = absurd (omega (arith, h))
overlaid_front [] b (suc o) xs h = absurd (omega (arith, h))
overlaid_front (y ∷ a) b zero [] h = take-length ((y ∷ a) ++ b) ∙ ap (λ l. l ++ b) (sym (take-length (y ∷ a)))
overlaid_front (y ∷ a) b zero (x ∷ xs) h = ap (λ l. x ∷ l) (overlaid_front a b zero xs (omega (arith, h)))
overlaid_front (y ∷ a) b (suc o) xs h = ap (λ l. y ∷ l) (overlaid_front a b o xs (omega (arith, h)))

-- words in the back part don't change the front part
pub overlaid_back : (a b : List ℕ) (o p : ℕ) (xs : List ℕ) → o ≡ length a + p
    → overlay (a ++ b) o xs ≡ a ++ overlay b p xs
overlaid_back [] b o p xs h = let z : o ≡ p = omega (arith, h) in ap (λ n. overlay b n xs) z
overlaid_back (y ∷ a) b zero p xs h = absurd (omega (arith, h))
overlaid_back (y ∷ a) b (suc o) p xs h = ap (λ l. y ∷ l) (overlaid_back a b o p xs (omega (arith, h)))

length_taken : (n : ℕ) (xs : List ℕ) → length (take n xs) ≤ n
length_taken zero xs = omega arith
length_taken (suc n) [] = omega arith
length_taken (suc n) (x ∷ xs) = omega (arith, length_taken n xs)

-- the same, part by part
pub laid_parts : (ws xs before rest ys here behind : List ℕ) (o : ℕ) → o < length ws → before ≡ take o ws
    → rest ≡ drop o ws → ys ≡ take (length ws - o) (drop 0 xs) → here ≡ ys → behind ≡ drop (length ys) rest
    → before ++ (here ++ behind) ≡ overlay ws o xs
laid_parts ws xs before rest ys here behind o low a b c d e =
    let long : length ys ≤ length ws - o = subst (λ (l : List ℕ). length l ≤ length ws - o) (sym c)
    (length_taken (length ws - o) xs) in
    (λ i. a i ++ (d i ++ (e ∙ ap (drop (length ys)) b) i))
    ∙ sym (overlaid_whole ws o ys (omega (arith, low, long)))
    ∙ ap (overlay ws o) c ∙ overlaid_cut ws o xs (length ws - o) refl

-- words that are all written over
pub overlaid_all : (ws xs : List ℕ) → length xs ≡ length ws → overlay ws 0 xs ≡ xs
overlaid_all ws xs e =
    let behind : drop (length xs) ws ≡ [] = drop_of_length-le ws (omega (arith, e)) in
    ap (λ ys. take (length ws) (xs ++ ys)) behind ∙ ap (take (length ws)) (append-nil xs)
    ∙ ap (λ n. take n xs) (sym e) ∙ take-length xs
