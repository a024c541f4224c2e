-- Lists that are kept in addition to the records: what is found in them, and how a changed record changes them.
use Rattle.std.proofs.Common.{◌≡◌, ℕ, zero, suc, ◌+◌, ◌-◌, ◌<◌, ◌&&◌, Bool, true, false, not}
use Rattle.std.proofs.Common.{cond, List, [], ◌∷◌, map, length, set, replicate, position}
use Rattle.std.proofs.Common.{nat_le, nat_lt, Option, Some, None, is_none, refl, ◌∙◌, ap, arith}
use Rattle.std.specs.List.{slice_get, position_or_len}
use Rattle.std.proofs.lemmas.Bool.Decides.{nat_tests}
use Rattle.model.specs.declared.records.Page.{Page}
use Rattle.model.specs.Stores.{has_room, is_open, is_unused, page_with_room, free_frame}
use Rattle.page.specs.Views.{left_in, mark}

-- what is found

first_mapped : {X : Type 0} (f : X → ℕ) (q : X → Bool) (n : ℕ) (xs : List X) → ((x : X) → nat_le n (f x) ≡ q x)
    → position_or_len (λ v. nat_le n v) (map f xs) ≡ position_or_len q xs
first_mapped f q n [] h = refl
first_mapped f q n (x ∷ xs) h = ap (λ b. cond (not b) (1 + position_or_len (λ v. nat_le n v) (map f xs)) 0) (h x)
    ∙ ap (λ k. cond (not (q x)) (1 + k) 0) (first_mapped f q n xs h)

pub length_mapped : {X Y : Type 0} (f : X → Y) (xs : List X) → length (map f xs) ≡ length xs
length_mapped f [] = refl
length_mapped f (x ∷ xs) = ap suc (length_mapped f xs)

found_mapped : {X : Type 0} (f : X → ℕ) (q : X → Bool) (n : ℕ) (xs : List X) → ((x : X) → nat_le n (f x) ≡ q x)
    → position (λ v. nat_le n v) (map f xs) ≡ position q xs
found_mapped f q n xs h =
    ap (λ k. cond (nat_lt k (length (map f xs))) (Some k) None) (first_mapped f q n xs h)
    ∙ ap (λ k. cond (nat_lt (position_or_len q xs) k) (Some (position_or_len q xs)) None) (length_mapped f xs)

enough : (n left : ℕ) (is_so : Bool) → 0 < n → nat_le n (cond is_so left 0) ≡ is_so && nat_le n left
enough n left true low = refl
enough n left false low = grind (arith, nat_tests)

marked : (is_so : Bool) → nat_le 1 (mark is_so) ≡ is_so
marked true = refl
marked false = refl

pub room_in_index : (words n : ℕ) (pages : List Page) → 0 < n
    → position (λ v. nat_le n v) (map (left_in words) pages) ≡ page_with_room words n pages
unfolding page_with_room
room_in_index words n pages low =
    found_mapped (left_in words) (has_room words n) n pages (λ p. enough n (words - p.top) (is_open p.state) low)

pub unused_in_index : (pages : List Page) → position (λ v. nat_le 1 v)
    (map (λ (p : Page). mark (is_unused p.state)) pages) ≡ position (λ (p : Page). is_unused p.state) pages
unused_in_index pages = found_mapped (λ (p : Page). mark (is_unused p.state)) (λ p. is_unused p.state) 1 pages
    (λ p. marked (is_unused p.state))

pub free_in_index : (owners : List (Option ℕ))
    → position (λ v. nat_le 1 v) (map (λ (o : Option ℕ). mark (is_none o)) owners) ≡ free_frame owners
unfolding free_frame
free_in_index owners = found_mapped (λ (o : Option ℕ). mark (is_none o)) is_none 1 owners (λ o. marked (is_none o))

-- what changes

pub set_mapped : {X Y : Type 0} (f : X → Y) (xs : List X) (i : ℕ) (v : X) (n : Y) → n ≡ f v
    → set (map f xs) i n ≡ map f (set xs i v)
set_mapped f [] i v n e = refl
set_mapped f (x ∷ xs) zero v n e = ap (λ k. k ∷ map f xs) e
set_mapped f (x ∷ xs) (suc i) v n e = ap (λ ks. f x ∷ ks) (set_mapped f xs i v n e)

pub kept_mapped : {X Y : Type 0} (f : X → Y) (xs : List X) (i : ℕ) (x v : X) → slice_get xs i ≡ Some x → f x ≡ f v
    → map f xs ≡ map f (set xs i v)
kept_mapped f [] i x v h e = refl
kept_mapped f (y ∷ ys) zero x v h e = let here : y ≡ x = cc in ap (λ k. k ∷ map f ys) (ap f here ∙ e)
kept_mapped f (y ∷ ys) (suc i) x v h e = ap (λ ks. f y ∷ ks) (kept_mapped f ys i x v h e)

pub copies_mapped : {X Y : Type 0} (f : X → Y) (n : ℕ) (x : X) → replicate n (f x) ≡ map f (replicate n x)
copies_mapped f zero x = refl
copies_mapped f (suc n) x = ap (λ ks. f x ∷ ks) (copies_mapped f n x)

pub length_index : {X : Type 0} (f : X → ℕ) (xs : List X) (ns : List ℕ) (i : ℕ) → ns ≡ map f xs → i < length xs
    → i < length ns
length_index f xs ns i e h = omega (arith, ap length e, length_mapped f xs)
