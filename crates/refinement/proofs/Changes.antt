-- One element of a list is changed: threads, and the bits of bitmaps.
use Rattle.std.proofs.Common.{◌≡◌, ◌≢◌, ◌⊎◌, inl, inr, ℕ, zero, suc, ◌+◌, ◌*◌, ◌/◌, ◌%◌, ◌<◌, ◌≤◌, Bool, false, List}
use Rattle.std.proofs.Common.{[], ◌∷◌, length, get_or, set, replicate, Option, Some, None, refl, sym, ◌∙◌, ap, ap₂}
use Rattle.std.proofs.Common.{arith, div-add-mod'}
use Rattle.std.specs.List.{slice_get}
use Rattle.std.specs.Option.{option_map}
use Rattle.std.proofs.lemmas.Option.{get_or_from_slice_get}
use Rattle.std.proofs.lemmas.List.{get_or_past}
use Rattle.std.proofs.Math.ListN.{length-set, length-replicate}
use Rattle.std.proofs.lemmas.Bool.{cases_eq}
use Rattle.model.specs.States.{change_at, change_found, ThreadState, Reference, flat}
use Rattle.model.specs.Bits.{blank_row, put_bit}
use Rattle.model.proofs.Lists.{get_set_same, get_set_other, get_within}
use Rattle.laws.specs.AddressHeap.{put, put_at}
use Rattle.laws.proofs.Basics.{put_all, put_same, put_other, put_id}
use Rattle.model.specs.Bits.{of_page, bit_at}
use Rattle.model.specs.Threads.{register_in}
use Rattle.refinement.specs.Worlds.{as_word}

-- a read of a list with one element changed
pub get_changed : {X : Type 0} (xs : List X) (t : ℕ) (f : X → X) (u : ℕ)
    → slice_get (change_at xs t f) u ≡ put (slice_get xs) t (option_map f (slice_get xs t)) u
get_changed {X} xs t f u = go (slice_get xs t) refl
  where
    go : (o : Option X) → slice_get xs t ≡ o
        → slice_get (change_found xs t o f) u ≡ put (slice_get xs) t (option_map f o) u
    go None e = sym (ap (λ g. g u) (put_id (slice_get xs) t None e))
    go (Some x) e = put_all (λ v y. slice_get (set xs t (f x)) v ≡ y) (slice_get xs) t (Some (f x))
        (get_set_same xs t x (f x) e) (λ v d. get_set_other xs t v (f x) d) u

-- a property of every element that a change keeps
pub kept_of : {X B : Type 0} (P : Option X → B) (xs : List X) (t : ℕ) (f : X → X)
    → ((x : X) → P (Some (f x)) ≡ P (Some x)) → (u : ℕ) → P (slice_get (change_at xs t f) u) ≡ P (slice_get xs u)
kept_of {X} P xs t f h u = ap P (get_changed xs t f u) ∙ put_all (λ v y. P y ≡ P (slice_get xs v)) (slice_get xs) t
    (option_map f (slice_get xs t)) (here (slice_get xs t)) (λ v d. refl) u
  where
    here : (o : Option X) → P (option_map f o) ≡ P o
    here None = refl
    here (Some x) = h x

-- reads of the changed element, and of the others
pub read_changed : {X B : Type 0} (P : Option X → B) (xs : List X) (t : ℕ) (f : X → X) (x : X) (v : B)
    → slice_get xs t ≡ Some x → P (Some (f x)) ≡ v → (u : ℕ)
    → P (slice_get (change_at xs t f) u) ≡ put (λ w. P (slice_get xs w)) t v u
read_changed {X} P xs t f x v e k u = ap P (get_changed xs t f u) ∙ put_all (λ w y. P (put (slice_get xs) t now w) ≡ y)
    (λ w. P (slice_get xs w)) t v (ap P (put_same (slice_get xs) t now ∙ ap (option_map f) e) ∙ k)
    (λ w d. ap P (put_other (slice_get xs) t now w d)) u
  where
    now : Option X
    now = option_map f (slice_get xs t)

-- a value that is read after the change was there before, if that holds for the changed element
pub was_read : {X B : Type 0} (P : Option X → Option B) (xs : List X) (t : ℕ) (f : X → X)
    → ((x : X) (y : B) → P (Some (f x)) ≡ Some y → P (Some x) ≡ Some y) → (u : ℕ) (y : B)
    → P (slice_get (change_at xs t f) u) ≡ Some y → P (slice_get xs u) ≡ Some y
was_read {X} P xs t f h u y e = put_all (λ v o. P o ≡ Some y → P (slice_get xs v) ≡ Some y) (slice_get xs) t
    (option_map f (slice_get xs t)) (here (slice_get xs t)) (λ v d k. k) u (sym (ap P (get_changed xs t f u)) ∙ e)
  where
    here : (o : Option X) → P (option_map f o) ≡ Some y → P o ≡ Some y
    here None k = k
    here (Some x) k = h x y k

-- bitmaps

-- the list of a page, as a read of a list of them
abbrev pub list_of : {X : Type 0} → Option (List X) → List X
list_of None = []
list_of (Some xs) = xs

pub list_read : {X : Type 0} (lists : List (List X)) (i : ℕ) → get_or lists i [] ≡ list_of (slice_get lists i)
list_read [] i = refl
list_read (x ∷ xs) zero = refl
list_read (x ∷ xs) (suc i) = list_read xs i

-- the lists of pages, of which one was changed
pub page_changed : {X : Type 0} (rows : List (List X)) (i : ℕ) (f : List X → List X) (row : List X)
    → slice_get rows i ≡ Some row → (m : ℕ) → of_page (change_at rows i f) m ≡ put (of_page rows) (suc i) (f row) m
page_changed rows i f row e =
    put_all (λ m y. of_page (change_at rows i f) m ≡ y) (of_page rows) (suc i) (f row) here elsewhere
  where
    here : get_or (change_at rows i f) i [] ≡ f row
    here = list_read (change_at rows i f) i ∙ ap list_of
        (get_changed rows i f i ∙ put_same (slice_get rows) i (option_map f (slice_get rows i)) ∙ ap (option_map f) e)

    elsewhere : (m : ℕ) → m ≢ suc i → of_page (change_at rows i f) m ≡ of_page rows m
    elsewhere zero d = refl
    elsewhere (suc m) d = list_read (change_at rows i f) m ∙ ap list_of (get_changed rows i f m
        ∙ put_other (slice_get rows) i (option_map f (slice_get rows i)) m (λ k. d (ap suc k))) ∙ sym (list_read rows m)

bit_read : (row : List Bool) (o : ℕ) (b : Bool) → slice_get row o ≡ Some b → get_or row o false ≡ b
bit_read row o b e = get_or_from_slice_get row o b false e

put_in_row : (row : List Bool) (o : ℕ) (b : Bool) → o < length row → (i : ℕ)
    → get_or (put_bit o b row) i false ≡ put (λ j. get_or row j false) o b i
put_in_row row o b h = put_all (λ i y. get_or (set row o b) i false ≡ y) (λ j. get_or row j false) o b here elsewhere
  where
    here : get_or (set row o b) o false ≡ b
    here = let (c, e) = get_within row o h in bit_read (set row o b) o b (get_set_same row o c b e)

    elsewhere : (i : ℕ) → i ≢ o → get_or (set row o b) i false ≡ get_or row i false
    elsewhere i d = by_bit (slice_get row i) refl
      where
        by_bit : (x : Option Bool) → slice_get row i ≡ x → get_or (set row o b) i false ≡ get_or row i false
        by_bit None e = get_or_past (set row o b) i false (ends (set row o b) i (get_set_other row o i b d ∙ e))
            ∙ sym (get_or_past row i false (ends row i e))
          where
            ends : (xs : List Bool) (i : ℕ) → slice_get xs i ≡ None → length xs ≤ i
            ends [] i k = omega arith
            ends (x ∷ xs) zero k = absurd (cc)
            ends (x ∷ xs) (suc i) k = omega (arith, ends xs i k)
        by_bit (Some c) e = bit_read (set row o b) i c (get_set_other row o i b d ∙ e) ∙ sym (bit_read row i c e)

pub length_put : (o : ℕ) (b : Bool) (row : List Bool) → length (put_bit o b row) ≡ length row
length_put o b row = length-set row o b

pub length_blank : (row : List Bool) → length (blank_row row) ≡ length row
length_blank row = length-replicate (length row) false

-- the bits of addresses

pub same_place : (w x a : ℕ) → x / w ≡ a / w → x % w ≡ a % w → x ≡ a
same_place w x a e f = sym (div-add-mod' x w) ∙ ap₂ (λ q r. q * w + r) e f ∙ div-add-mod' a w

row_there : (rows : List (List Bool)) (i : ℕ) (row : List Bool) → slice_get rows i ≡ Some row
    → of_page rows (suc i) ≡ row
row_there rows i row e = list_read rows i ∙ ap list_of e

-- a bit is set or cleared
pub bit_put : (w : ℕ) (rows : List (List Bool)) (i a : ℕ) (b : Bool) (row : List Bool)
    → a / w ≡ suc i → slice_get rows i ≡ Some row → a % w < length row → (x : ℕ)
    → bit_at (change_at rows i (put_bit (a % w) b)) w x ≡ put (bit_at rows w) a b x
bit_put w rows i a b row p e h =
    put_all (λ x y. bit_at (change_at rows i (put_bit (a % w) b)) w x ≡ y) (bit_at rows w) a
    b (on_page a p ∙ put_same (λ j. get_or row j false) (a % w) b) (λ x d. elsewhere x d (cases_eq (x / w) (suc i)))
  where
    on_page : (x : ℕ) → x / w ≡ suc i
        → bit_at (change_at rows i (put_bit (a % w) b)) w x ≡ put (λ j. get_or row j false) (a % w) b (x % w)
    on_page x q = ap (λ r. get_or r (x % w) false) (page_changed rows i (put_bit (a % w) b) row e (x / w)
        ∙ ap (put (of_page rows) (suc i) (put_bit (a % w) b row)) q
        ∙ put_same (of_page rows) (suc i) (put_bit (a % w) b row)) ∙ put_in_row row (a % w) b h (x % w)

    elsewhere : (x : ℕ) → x ≢ a → (x / w ≡ suc i) ⊎ (x / w ≢ suc i)
        → bit_at (change_at rows i (put_bit (a % w) b)) w x ≡ bit_at rows w x
    elsewhere x d (inl q) =
        on_page x q ∙ put_other (λ j. get_or row j false) (a % w) b (x % w) (λ k. d (same_place w x a (q ∙ sym p) k))
        ∙ ap (λ r. get_or r (x % w) false) (sym (ap (of_page rows) q ∙ row_there rows i row e))
    elsewhere x d (inr q) = ap (λ r. get_or r (x % w) false) (page_changed rows i (put_bit (a % w) b) row e (x / w)
        ∙ put_other (of_page rows) (suc i) (put_bit (a % w) b row) (x / w) q)

pub blank_bit : (n i : ℕ) → get_or (replicate n false) i false ≡ false
blank_bit zero i = refl
blank_bit (suc n) zero = refl
blank_bit (suc n) (suc i) = blank_bit n i

-- a bitmap is cleared
placed_as : (rows : List (List Bool)) (i : ℕ) (row new : List Bool) → slice_get rows i ≡ Some row
    → change_at rows i (λ r. new) ≡ set rows i new
placed_as rows i row new e = ap (λ o. change_found rows i o (λ r. new)) e

-- a page that got a new bitmap has no bit there, and other pages have theirs
pub new_here : (w n : ℕ) (rows : List (List Bool)) (i : ℕ) (row : List Bool) (x : ℕ) → slice_get rows i ≡ Some row
    → x / w ≡ suc i → bit_at (set rows i (replicate n false)) w x ≡ false
new_here w n rows i row x e q = ap (λ rs. bit_at rs w x) (sym (placed_as rows i row (replicate n false) e))
    ∙ ap (λ r. get_or r (x % w) false) (page_changed rows i (λ r. replicate n false) row e (x / w)
    ∙ ap (put (of_page rows) (suc i) (replicate n false)) q ∙ put_same (of_page rows) (suc i) (replicate n false))
    ∙ blank_bit n (x % w)

pub new_other : (w n : ℕ) (rows : List (List Bool)) (i : ℕ) (row : List Bool) (x : ℕ) → slice_get rows i ≡ Some row
    → x / w ≢ suc i → bit_at (set rows i (replicate n false)) w x ≡ bit_at rows w x
new_other w n rows i row x e q = ap (λ rs. bit_at rs w x) (sym (placed_as rows i row (replicate n false) e))
    ∙ ap (λ r. get_or r (x % w) false) (page_changed rows i (λ r. replicate n false) row e (x / w)
    ∙ put_other (of_page rows) (suc i) (replicate n false) (x / w) q)

-- the registers of threads after register r of one changed
pub register_changed :
    (ts : List ThreadState) (t r : ℕ) (w : Reference) (f : ThreadState → ThreadState) (x : ThreadState)
    → slice_get ts t ≡ Some x → r < length x.registers → (f x).registers ≡ set x.registers r w
    → (u s : ℕ) → as_word (register_in (slice_get (change_at ts t f) u) s)
    ≡ put_at (λ v q. as_word (register_in (slice_get ts v) q)) t r (as_word w) u s
register_changed ts t r w f x e h k u s =
    ap (λ o. as_word (register_in o s)) (get_changed ts t f u) ∙ put_all
    (λ v y. (q : ℕ) → as_word (register_in (put (slice_get ts) t (option_map f (slice_get ts t)) v) q) ≡ y q)
    (λ v q. as_word (register_in (slice_get ts v) q)) t
    (put (λ q. as_word (register_in (slice_get ts t) q)) r (as_word w)) here (λ v d q.
    ap (λ o. as_word (register_in o q)) (put_other (slice_get ts) t (option_map f (slice_get ts t)) v d)) u s
  where
    in_thread : (q : ℕ) → as_word (flat (slice_get (set x.registers r w) q))
        ≡ put (λ q. as_word (flat (slice_get x.registers q))) r (as_word w) q
    in_thread = put_all (λ q y. as_word (flat (slice_get (set x.registers r w) q)) ≡ y)
        (λ q. as_word (flat (slice_get x.registers q))) r (as_word w)
        (let (y, there) = get_within x.registers r h in
        ap (λ o. as_word (flat o)) (get_set_same x.registers r y w there))
        (λ q d. ap (λ o. as_word (flat o)) (get_set_other x.registers r q w d))

    here : (q : ℕ) → as_word (register_in (put (slice_get ts) t (option_map f (slice_get ts t)) t) q)
        ≡ put (λ q. as_word (register_in (slice_get ts t) q)) r (as_word w) q
    here q =
        ap (λ o. as_word (register_in o q)) (put_same (slice_get ts) t (option_map f (slice_get ts t))
        ∙ ap (option_map f) e) ∙ ap (λ l. as_word (flat (slice_get l q))) k ∙ in_thread q
        ∙ ap (λ o. put (λ q. as_word (register_in o q)) r (as_word w) q) (sym e)
