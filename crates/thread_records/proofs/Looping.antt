-- Loops that change each element of a list.
use Rattle.std.proofs.Common.{◌≡◌, ℕ, ◌+◌, ◌<◌, ◌≤◌, List, [], ◌∷◌, ◌++◌, length, map, take, drop, get_or, set, refl}
use Rattle.std.proofs.Common.{sym, suc}
use Rattle.std.proofs.Common.{◌∙◌, ap, arith, length-set}
use Rattle.std.proofs.lemmas.List.{get_or-drop, take_more, take_more_set, map-append, drop-set-lt, take_all}
use Rattle.std.proofs.lemmas.Grind.{drop_more_same}

-- the elements before an index are changed, and the others are as before
pub record AreMapped (X : Type 0) (f : X → X) (old new : List X) (i : ℕ) : Type 0 where
  pub before : take i new ≡ map f (take i old)
  pub behind : drop i new ≡ drop i old
  pub many : length new ≡ length old

pub mapped_none : {X : Type 0} (f : X → X) (xs : List X) → AreMapped X f xs xs 0
mapped_none f xs = record { before = refl; behind = refl; many = refl }

pub mapped_more : {X : Type 0} (f : X → X) (old new : List X) (i : ℕ) (x y : X) → AreMapped X f old new i
    → i < length old → x ≡ get_or new i x → y ≡ f x → AreMapped X f old (set new i y) (i + 1)
mapped_more {X} f old new i x y so_far in_old read is =
    let within : i < length new = omega (arith, so_far.many) in
    let zero_more : i + 0 ≡ i = omega arith in
    let here : get_or new i x ≡ get_or old i x =
    ap (λ k. get_or new k x) (sym zero_more) ∙ sym (get_or-drop i new 0 x)
    ∙ ap (λ xs. get_or xs 0 x) so_far.behind ∙ get_or-drop i old 0 x ∙ ap (λ k. get_or old k x) zero_more in
    let y_is : y ≡ f (get_or old i x) = is ∙ ap f (read ∙ here) in
    record {
      before = take_more_set new i y within ∙ ap (λ xs. xs ++ y ∷ []) so_far.before
          ∙ ap (λ z. map f (take i old) ++ z ∷ []) y_is ∙ sym (map-append f (take i old) (get_or old i x ∷ []))
          ∙ ap (map f) (sym (take_more old i x in_old));
      behind = drop-set-lt (i + 1) new i y (omega arith) ∙ drop_more_same new old i so_far.behind;
      many = length-set new i y ∙ so_far.many;
    }

pub mapped_all : {X : Type 0} (f : X → X) (old new : List X) (i : ℕ) → AreMapped X f old new i → length new ≤ i
    → new ≡ map f old
mapped_all f old new i all past = sym (take_all i new past) ∙ all.before
    ∙ ap (map f) (take_all i old (omega (arith, all.many, past)))

pub length_mapped : {X Y : Type 0} (f : X → Y) (xs : List X) → length (map f xs) ≡ length xs
length_mapped f [] = refl
length_mapped f (x ∷ xs) = ap suc (length_mapped f xs)

-- a list that was changed element by element keeps its length
pub mapped_many : {X : Type 0} (f : X → X) (old new : List X) (n : ℕ) → new ≡ map f old → length old ≡ n
    → length new ≡ n
mapped_many f old new n e k = ap length e ∙ length_mapped f old ∙ k
