-- Plans: places are within their targets, in order, and no two overlap; membership in a list of live objects.
use Rattle.std.proofs.Common.{◌≡◌, ◌≢◌, ◌⊎◌, inl, inr, ℕ, zero, suc, ◌+◌, ◌<◌, ◌≤◌, Bool, true, false, cond}
use Rattle.std.proofs.Common.{nat_le, List, [], ◌∷◌, ◌++◌, length, map, Some, refl, sym}
use Rattle.std.proofs.Common.{◌∙◌, ap, subst, arith, ne_eqb, eq-eqb}
use Rattle.std.specs.List.{slice_get, flat_map}
use Rattle.std.specs.Prelude.{zip}
use Rattle.std.proofs.lemmas.Bool.{leb-true, cases_eq}
use Rattle.std.proofs.lemmas.Option.{same_Some}
use Rattle.model.specs.declared.records.Forwarding.{Forwarding}
use Rattle.model.specs.Owning.{Each}
use Rattle.model.specs.Holding.{AreRising}
use Rattle.model.specs.Plans.{places_from, target_count, offsets_from, place_of}

-- places

pub places_length : (w t o : ℕ) (ns : List ℕ) → length (places_from w t o ns) ≡ length ns
places_length w t o [] = refl
places_length w t o (n ∷ ns) = by_test (nat_le (o + n) w) (places_length w t (o + n) ns) (places_length w (t + 1) n ns)
  where
    by_test : (b : Bool) → length (places_from w t (o + n) ns) ≡ length ns
        → length (places_from w (t + 1) n ns) ≡ length ns
        → length (cond b ((t, o) ∷ places_from w t (o + n) ns) ((t + 1, 0) ∷ places_from w (t + 1) n ns))
        ≡ length (n ∷ ns)
    by_test true e f = ap suc e
    by_test false e f = ap suc f

-- a place of n words begins at this offset of this target, or after it, and ends in its target
pub record IsBehind (w t o n : ℕ) (p : ℕ × ℕ) : Type 0 where
  pub fits : p.1 + n ≤ w
  pub behind : (t < p.0) ⊎ ((t ≡ p.0) × (o ≤ p.1))

further : (w t o n m : ℕ) (p : ℕ × ℕ) → IsBehind w t (o + n) m p → IsBehind w t o m p
further w t o n m p k = record {
  fits = k.fits;
  behind = elim k.behind [ inl l ↦ inl l | inr e ↦ inr (e.0, omega (arith, e.1)) ];
}

later : (w t o n m : ℕ) (p : ℕ × ℕ) → IsBehind w (t + 1) n m p → IsBehind w t o m p
later w t o n m p k = record {
  fits = k.fits;
  behind = elim k.behind [ inl l ↦ inl (omega (arith, l)) | inr e ↦ inl (omega (arith, e.0)) ];
}

pub places_behind : (w t o : ℕ) (ns : List ℕ) → Each ns (λ n. n ≤ w) → (i n : ℕ) (p : ℕ × ℕ)
    → slice_get ns i ≡ Some n → slice_get (places_from w t o ns) i ≡ Some p → IsBehind w t o n p
places_behind w t o [] h i n p e f = absurd (cc)
places_behind w t o (m ∷ ns) h i n p e f =
    by_test (nat_le (o + m) w) refl i e f (places_behind w t (o + m) ns (λ j. h (suc j)))
    (places_behind w (t + 1) m ns (λ j. h (suc j)))
  where
    by_test : (b : Bool) → nat_le (o + m) w ≡ b → (i : ℕ) → slice_get (m ∷ ns) i ≡ Some n
        → slice_get (cond b ((t, o) ∷ places_from w t (o + m) ns) ((t + 1, 0) ∷ places_from w (t + 1) m ns)) i ≡ Some p
        → ((i n : ℕ) (p : ℕ × ℕ) → slice_get ns i ≡ Some n → slice_get (places_from w t (o + m) ns) i ≡ Some p
        → IsBehind w t (o + m) n p)
        → ((i n : ℕ) (p : ℕ × ℕ) → slice_get ns i ≡ Some n → slice_get (places_from w (t + 1) m ns) i ≡ Some p
        → IsBehind w (t + 1) m n p)
        → IsBehind w t o n p
    by_test true b zero e f x y =
        let is : m ≡ n = same_Some _ _ e in
        let at : (t, o) ≡ p = same_Some _ _ f in
        subst (IsBehind w t o n) at (record {
          fits = omega (arith, is, leb-true (o + m) w b);
          behind = inr (refl, omega arith);
        })
    by_test true b (suc i) e f x y = further w t o m n p (x i n p e f)
    by_test false b zero e f x y =
        let is : m ≡ n = same_Some _ _ e in
        let at : (t + 1, 0) ≡ p = same_Some _ _ f in
        subst (IsBehind w t o n) at (record { fits = omega (arith, is, h zero m refl); behind = inl (omega arith) })
    by_test false b (suc i) e f x y = later w t o m n p (y i n p e f)

-- one place ends in its target before the other begins, or they are in different targets
pub record IsBefore (n : ℕ) (p q : ℕ × ℕ) : Type 0 where
  pub order : (p.0 < q.0) ⊎ ((p.0 ≡ q.0) × (p.1 + n ≤ q.1))

pub places_apart : (w t o : ℕ) (ns : List ℕ) → Each ns (λ n. n ≤ w) → (i j n m : ℕ) (p q : ℕ × ℕ) → i < j
    → slice_get ns i ≡ Some n → slice_get (places_from w t o ns) i ≡ Some p
    → slice_get ns j ≡ Some m → slice_get (places_from w t o ns) j ≡ Some q → IsBefore n p q
places_apart w t o [] h i j n m p q l e f g k = absurd (cc)
places_apart w t o (x ∷ ns) h i zero n m p q l e f g k = absurd (omega (arith, l))
places_apart w t o (x ∷ ns) h i (suc j) n m p q l e f g k =
    by_test (nat_le (o + x) w) refl i l e f k (places_apart w t (o + x) ns (λ j. h (suc j)))
    (places_apart w (t + 1) x ns (λ j. h (suc j)))
  where
    first : (t2 o2 e2 : ℕ) → e2 ≡ o2 + x → IsBehind w t2 e2 m q → x ≡ n → (t2, o2) ≡ p → IsBefore n p q
    first t2 o2 e2 sum b is at = subst (λ z. IsBefore n z q) at (record {
      order = elim b.behind [
        | inl z ↦ inl z
        | inr z ↦ inr (z.0, omega (arith, is, sum, z.1))
      ];
    })

    by_test : (b : Bool) → nat_le (o + x) w ≡ b → (i : ℕ) → i < suc j → slice_get (x ∷ ns) i ≡ Some n
        → slice_get (cond b ((t, o) ∷ places_from w t (o + x) ns) ((t + 1, 0) ∷ places_from w (t + 1) x ns)) i ≡ Some p
        → slice_get (cond b ((t, o) ∷ places_from w t (o + x) ns) ((t + 1, 0) ∷ places_from w (t + 1) x ns)) (suc j)
        ≡ Some q
        → ((i j n m : ℕ) (p q : ℕ × ℕ) → i < j → slice_get ns i ≡ Some n
        → slice_get (places_from w t (o + x) ns) i ≡ Some p → slice_get ns j ≡ Some m
        → slice_get (places_from w t (o + x) ns) j ≡ Some q → IsBefore n p q)
        → ((i j n m : ℕ) (p q : ℕ × ℕ) → i < j → slice_get ns i ≡ Some n
        → slice_get (places_from w (t + 1) x ns) i ≡ Some p → slice_get ns j ≡ Some m
        → slice_get (places_from w (t + 1) x ns) j ≡ Some q → IsBefore n p q)
        → IsBefore n p q
    by_test true b zero z e f k u v =
        first t o (o + x) refl (places_behind w t (o + x) ns (λ i. h (suc i)) j m q g k) (same_Some _ _ e)
        (same_Some _ _ f)
    by_test true b (suc i) z e f k u v = u i j n m p q (omega (arith, z)) e f g k
    by_test false b zero z e f k u v = first (t + 1) 0 x (omega arith)
        (places_behind w (t + 1) x ns (λ i. h (suc i)) j m q g k) (same_Some _ _ e) (same_Some _ _ f)
    by_test false b (suc i) z e f k u v = v i j n m p q (omega (arith, z)) e f g k

-- a place is in this target or in a later one
from_target : (w t o : ℕ) (ns : List ℕ) (i : ℕ) (p : ℕ × ℕ) → slice_get (places_from w t o ns) i ≡ Some p → t ≤ p.0
from_target w t o [] i p e = absurd (cc)
from_target w t o (n ∷ ns) i p e = by_test (nat_le (o + n) w) i e (from_target w t (o + n) ns)
    (from_target w (t + 1) n ns)
  where
    by_test : (b : Bool) (i : ℕ)
        → slice_get (cond b ((t, o) ∷ places_from w t (o + n) ns) ((t + 1, 0) ∷ places_from w (t + 1) n ns)) i ≡ Some p
        → ((i : ℕ) (p : ℕ × ℕ) → slice_get (places_from w t (o + n) ns) i ≡ Some p → t ≤ p.0)
        → ((i : ℕ) (p : ℕ × ℕ) → slice_get (places_from w (t + 1) n ns) i ≡ Some p → t + 1 ≤ p.0)
        → t ≤ p.0
    by_test true zero e x y = let is : t ≡ p.0 = ap (λ (z : ℕ × ℕ). z.0) (same_Some _ _ e) in omega (arith, is)
    by_test true (suc i) e x y = x i p e
    by_test false zero e x y = let is : t + 1 ≡ p.0 = ap (λ (z : ℕ × ℕ). z.0) (same_Some _ _ e) in omega (arith, is)
    by_test false (suc i) e x y = omega (arith, y i p e)

-- and in one of the targets
last_counts : (p : ℕ × ℕ) (ps : List (ℕ × ℕ)) → target_count ps ≤ target_count (p ∷ ps)
last_counts p [] = omega arith
last_counts p (q ∷ ps) = omega arith

counted_head : (t o : ℕ) (ps : List (ℕ × ℕ)) → ((i : ℕ) (p : ℕ × ℕ) → slice_get ps i ≡ Some p → t ≤ p.0)
    → ((i : ℕ) (p : ℕ × ℕ) → slice_get ps i ≡ Some p → p.0 < target_count ps) → t < target_count ((t, o) ∷ ps)
counted_head t o [] from below = omega arith
counted_head t o (q ∷ ps) from below = omega (arith, from zero q refl, below zero q refl)

pub places_counted : (w t o : ℕ) (ns : List ℕ) (i : ℕ) (p : ℕ × ℕ) → slice_get (places_from w t o ns) i ≡ Some p
    → p.0 < target_count (places_from w t o ns)
places_counted w t o [] i p e = absurd (cc)
places_counted w t o (n ∷ ns) i p e = by_test (nat_le (o + n) w) i e (places_counted w t (o + n) ns)
    (places_counted w (t + 1) n ns)
  where
    behind : (t2 o2 : ℕ) (ps : List (ℕ × ℕ)) → ((i : ℕ) (p : ℕ × ℕ) → slice_get ps i ≡ Some p → t2 ≤ p.0)
        → ((i : ℕ) (p : ℕ × ℕ) → slice_get ps i ≡ Some p → p.0 < target_count ps) → (i : ℕ)
        → slice_get ((t2, o2) ∷ ps) i ≡ Some p → p.0 < target_count ((t2, o2) ∷ ps)
    behind t2 o2 ps from below zero e =
        let is : t2 ≡ p.0 = ap (λ (z : ℕ × ℕ). z.0) (same_Some _ _ e) in
        omega (arith, is, counted_head t2 o2 ps from below)
    behind t2 o2 ps from below (suc i) e = omega (arith, below i p e, last_counts (t2, o2) ps)

    by_test : (b : Bool) (i : ℕ)
        → slice_get (cond b ((t, o) ∷ places_from w t (o + n) ns) ((t + 1, 0) ∷ places_from w (t + 1) n ns)) i ≡ Some p
        → ((i : ℕ) (p : ℕ × ℕ) → slice_get (places_from w t (o + n) ns) i ≡ Some p
        → p.0 < target_count (places_from w t (o + n) ns))
        → ((i : ℕ) (p : ℕ × ℕ) → slice_get (places_from w (t + 1) n ns) i ≡ Some p
        → p.0 < target_count (places_from w (t + 1) n ns))
        → p.0 < target_count (cond b ((t, o) ∷ places_from w t (o + n) ns) ((t + 1, 0) ∷ places_from w (t + 1) n ns))
    by_test true i e near far = behind t o (places_from w t (o + n) ns) (from_target w t (o + n) ns) near i e
    by_test false i e near far = behind (t + 1) 0 (places_from w (t + 1) n ns) (from_target w (t + 1) n ns) far i e

-- membership in a list

-- x is in a list
abbrev pub IsIn : {X : Type 0} → X → List X → Type 0
IsIn x [] = ⊥
IsIn x (y ∷ ys) = (y ≡ x) ⊎ IsIn x ys

pub in_first : {X : Type 0} (x : X) (xs ys : List X) → IsIn x xs → IsIn x (xs ++ ys)
in_first x [] ys e = absurd e
in_first x (y ∷ xs) ys (inl e) = inl e
in_first x (y ∷ xs) ys (inr e) = inr (in_first x xs ys e)

pub in_second : {X : Type 0} (x : X) (xs ys : List X) → IsIn x ys → IsIn x (xs ++ ys)
in_second x [] ys e = e
in_second x (y ∷ xs) ys e = inr (in_second x xs ys e)

pub in_either : {X : Type 0} (x : X) (xs ys : List X) → IsIn x (xs ++ ys) → IsIn x xs ⊎ IsIn x ys
in_either x [] ys e = inr e
in_either x (y ∷ xs) ys (inl e) = inl (inl e)
in_either x (y ∷ xs) ys (inr e) = elim (in_either x xs ys e) [ inl k ↦ inl (inr k) | inr k ↦ inr k ]

pub in_mapped : {X Y : Type 0} (f : X → Y) (x : X) (xs : List X) → IsIn x xs → IsIn (f x) (map f xs)
in_mapped f x [] e = absurd e
in_mapped f x (y ∷ xs) (inl e) = inl (ap f e)
in_mapped f x (y ∷ xs) (inr e) = inr (in_mapped f x xs e)

pub mapped_in : {X Y : Type 0} (f : X → Y) (y : Y) (xs : List X) → IsIn y (map f xs)
    → (x : X) × IsIn x xs × (f x ≡ y)
mapped_in f y [] e = absurd e
mapped_in f y (x ∷ xs) (inl e) = (x, inl refl, e)
mapped_in f y (x ∷ xs) (inr e) = let (z, there, is) = mapped_in f y xs e in (z, inr there, is)

pub in_at : {X : Type 0} (x : X) (xs : List X) → IsIn x xs → (i : ℕ) × (slice_get xs i ≡ Some x)
in_at x [] e = absurd e
in_at x (y ∷ xs) (inl e) = (0, ap Some e)
in_at x (y ∷ xs) (inr e) = let (i, at) = in_at x xs e in (suc i, at)

pub at_in : {X : Type 0} (x : X) (xs : List X) (i : ℕ) → slice_get xs i ≡ Some x → IsIn x xs
at_in x [] i e = absurd (cc)
at_in x (y ∷ xs) zero e = inl (same_Some _ _ e)
at_in x (y ∷ xs) (suc i) e = inr (at_in x xs i e)

-- live objects

-- an offset that is listed is that of a set bit
pub offset_told : (b : ℕ) (bits : List Bool) (o : ℕ) → IsIn o (offsets_from b bits)
    → (j : ℕ) × (o ≡ b + j) × (slice_get bits j ≡ Some true)
offset_told b [] o e = absurd e
offset_told b (true ∷ bits) o (inl e) = (0, omega (arith, e), refl)
offset_told b (true ∷ bits) o (inr e) =
    let (j, is, set) = offset_told (b + 1) bits o e in (suc j, omega (arith, is), set)
offset_told b (false ∷ bits) o e =
    let (j, is, set) = offset_told (b + 1) bits o e in (suc j, omega (arith, is), set)

-- the offset of each set bit is listed
pub bit_told : (b : ℕ) (bits : List Bool) (o j : ℕ) → o ≡ b + j → slice_get bits j ≡ Some true
    → IsIn o (offsets_from b bits)
bit_told b [] o j e k = absurd (cc)
bit_told b (true ∷ bits) o zero e k = inl (omega (arith, e))
bit_told b (true ∷ bits) o (suc j) e k = inr (bit_told (b + 1) bits o j (omega (arith, e)) k)
bit_told b (false ∷ bits) o zero e k = absurd (cc)
bit_told b (false ∷ bits) o (suc j) e k = bit_told (b + 1) bits o j (omega (arith, e)) k

-- the live objects of pages are those of each of them
pub objects_in : {X Y : Type 0} (f : X → List Y) (x : X) (y : Y) (xs : List X) → IsIn x xs → IsIn y (f x)
    → IsIn y (flat_map f xs)
objects_in f x y [] e k = absurd e
objects_in f x y (z ∷ xs) (inl e) k = in_first y (f z) (flat_map f xs) (subst (λ u. IsIn y (f u)) (sym e) k)
objects_in f x y (z ∷ xs) (inr e) k = in_second y (f z) (flat_map f xs) (objects_in f x y xs e k)

pub in_objects : {X Y : Type 0} (f : X → List Y) (y : Y) (xs : List X) → IsIn y (flat_map f xs)
    → (x : X) × IsIn x xs × IsIn y (f x)
in_objects f y [] e = absurd e
in_objects f y (z ∷ xs) e = elim (in_either y (f z) (flat_map f xs) e) [
  | inl k ↦ (z, inl refl, k)
  | inr k ↦ (let (x, there, is) = in_objects f y xs k in (x, inr there, is))
]

-- the place planned for an address is the one paired with it
pub placed : (objects places : List ℕ) (a : ℕ) → length places ≡ length objects → IsIn a objects
    → (i : ℕ) × (slice_get objects i ≡ Some a) × (slice_get places i ≡ Some (place_of (zip objects places) a))
placed [] places a e k = absurd k
placed (x ∷ objects) [] a e k = absurd (omega (arith, e))
placed (x ∷ objects) (n ∷ places) a e k = by_first (cases_eq x a) k (placed objects places a (omega (arith, e)))
  where
    place : Bool → ℕ
    place b = cond b n (place_of (zip objects places) a)

    by_first : (x ≡ a) ⊎ (x ≢ a) → (x ≡ a) ⊎ IsIn a objects
        → (IsIn a objects → (i : ℕ) × (slice_get objects i ≡ Some a)
        × (slice_get places i ≡ Some (place_of (zip objects places) a)))
        → (i : ℕ) × (slice_get (x ∷ objects) i ≡ Some a)
        × (slice_get (n ∷ places) i ≡ Some (place_of (zip (x ∷ objects) (n ∷ places)) a))
    by_first (inl z) k rest = (0, ap Some z, ap (λ b. Some (place b)) (sym (eq-eqb x a z)))
    by_first (inr d) (inl z) rest = absurd (d z)
    by_first (inr d) (inr there) rest =
        let (i, at, to) = rest there in
        (suc i, at, to ∙ ap (λ b. Some (place b)) (sym (ne_eqb x a d)))

-- the entries of a forwarding table rise
pub side_rises : (w b : ℕ) (bits : List Bool) (f : ℕ → ℕ) → b + length bits ≤ w
    → AreRising w b (map (λ o. record { offset = o; to = f o; copied = false }) (offsets_from b bits))
side_rises w b [] f e = tt
side_rises w b (true ∷ bits) f e = (omega arith, omega (arith, e), side_rises w (b + 1) bits f (omega (arith, e)))
side_rises w b (false ∷ bits) f e = from_lower w b (b + 1) (map (entry f) (offsets_from (b + 1) bits)) (omega arith)
    (side_rises w (b + 1) bits f (omega (arith, e)))
  where
    entry : (ℕ → ℕ) → ℕ → Forwarding
    entry f o = record { offset = o; to = f o; copied = false }

    from_lower : (w a b : ℕ) (fs : List Forwarding) → a ≤ b → AreRising w b fs → AreRising w a fs
    from_lower w a b [] l r = tt
    from_lower w a b (x ∷ fs) l (low, under, rest) = (omega (arith, l, low), under, rest)

-- entries that rise within a page are within it
pub rising_within : (w low : ℕ) (fs : List Forwarding) (e : ℕ) (f : Forwarding) → AreRising w low fs
    → slice_get fs e ≡ Some f → (low ≤ f.offset) × (f.offset < w)
rising_within w low [] e f r g = absurd (cc)
rising_within w low (x ∷ fs) zero f r g =
    subst (λ (y : Forwarding). (low ≤ y.offset) × (y.offset < w)) (same_Some x f g) (r.0, r.1)
rising_within w low (x ∷ fs) (suc e) f r g =
    let k = rising_within w (x.offset + 1) fs e f r.2 g in (omega (arith, k.0, r.0), k.1)
