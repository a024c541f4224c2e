-- Trees in a list: the path from the root to a leaf, and the list's leaves.
use Rattle.std.proofs.Common.{◌≡◌, ◌≢◌, ◌⊎◌, inl, inr, ℕ, zero, suc, ◌+◌, ◌-◌, ◌*◌, ◌/◌, ◌^◌, ◌<◌, ◌≤◌}
use Rattle.std.proofs.Common.{max, List, length, length-append, take, drop, set, replicate, ◌++◌, [], ◌∷◌}
use Rattle.std.proofs.Common.{get_or, position, nat_le, Some, None, refl, sym, ◌∙◌, ap, subst, arith}
use Rattle.std.specs.List.{position_or_len}
use Rattle.std.proofs.Math.Nat.{le-max_left, le-max_right, one-le-pow, pow-succ', pow-le-pow_right}
use Rattle.std.proofs.Math.Seq.{take-set-lt}
use Rattle.std.proofs.lemmas.List.{get_or-set_other, get_or-drop, get_or-take, length-take}
use Rattle.std.proofs.lemmas.List.{length-take-le, length-replicate, length-drop, drop-set-add}
use Rattle.std.proofs.lemmas.List.Sums.{position_or_len_is}
use Rattle.std.proofs.lemmas.Bool.Decides.{nat_tests}
use Rattle.std.proofs.lemmas.Bool.{cases_eq, le-leb, lt-leb, cases_lt}
use Rattle.tournaments.specs.Tournaments.{IsWinner, IsTree, IsFirstFrom}

-- the way down

-- the node k levels above
abbrev pub ancestor : ℕ → ℕ → ℕ
ancestor zero j = j
ancestor (suc k) j = ancestor k j / 2

ancestor_le : (k j : ℕ) → ancestor k j ≤ j
ancestor_le zero j = omega arith
ancestor_le (suc k) j = omega (arith, ancestor_le k j)

doubled : (a k : ℕ) → a * 2 ^ suc k ≡ 2 * a * 2 ^ k
doubled a k = omega (arith, ap (λ z. a * z) (pow-succ' 2 k))

ancestor_low : (k a j : ℕ) → a * 2 ^ k ≤ j → a ≤ ancestor k j
ancestor_low zero a j h = omega arith
ancestor_low (suc k) a j h = omega (arith, ancestor_low k (2 * a) j (omega (arith, doubled a k)))

ancestor_high : (k a j : ℕ) → j < a * 2 ^ k → ancestor k j < a
ancestor_high zero a j h = omega arith
ancestor_high (suc k) a j h = omega (arith, ancestor_high k (2 * a) j (omega (arith, doubled a k)))

-- no node is less than one below it
below : (xs : List ℕ) (a : ℕ) → IsWinner xs (a / 2) → get_or xs a 0 ≤ get_or xs (a / 2) 0
below xs a h = by_side (side a)
  where
    side : (a : ℕ) → (a ≡ 2 * (a / 2)) ⊎ (a ≡ 2 * (a / 2) + 1)
    side a = grind arith

    by_side : (a ≡ 2 * (a / 2)) ⊎ (a ≡ 2 * (a / 2) + 1) → get_or xs a 0 ≤ get_or xs (a / 2) 0
    by_side (inl e) =
        let same : get_or xs a 0 ≡ get_or xs (2 * (a / 2)) 0 = ap (λ z. get_or xs z 0) e in
        omega (arith, same, h, le-max_left (get_or xs (2 * (a / 2)) 0) (get_or xs (2 * (a / 2) + 1) 0))
    by_side (inr e) =
        let same : get_or xs a 0 ≡ get_or xs (2 * (a / 2) + 1) 0 = ap (λ z. get_or xs z 0) e in
        omega (arith, same, h, le-max_right (get_or xs (2 * (a / 2)) 0) (get_or xs (2 * (a / 2) + 1) 0))

rises : (xs : List ℕ) (width k j : ℕ) → IsTree xs width → j < 2 * width → 0 < ancestor k j
    → get_or xs j 0 ≤ get_or xs (ancestor k j) 0
rises xs width zero j t h p = omega arith
rises xs width (suc k) j t h p =
    let before = rises xs width k j t h (omega arith) in
    let winner = t (ancestor k j / 2) p (omega (arith, ancestor_le k j)) in
    omega (arith, before, below xs (ancestor k j) winner)

-- a node of a level whose subtree has the least leaf of at least n
pub record IsReached (xs : List ℕ) (depth n level node : ℕ) : Type 0 where
  pub low : 2 ^ level ≤ node
  pub high : node < 2 * 2 ^ level
  pub there : n ≤ get_or xs node 0
  pub left : (j : ℕ) → 2 ^ depth ≤ j → j < 2 * 2 ^ depth → ancestor (depth - level) j < node → get_or xs j 0 < n

twice : (k : ℕ) → 2 ^ (k + 1) ≡ 2 * 2 ^ k
twice k = let e : k + 1 ≡ suc k = omega arith in ap (λ z. 2 ^ z) e ∙ pow-succ' 2 k

-- a node of a level that isn't the last is above the leaves
pub inner_node : (depth level node : ℕ) → level < depth → node < 2 * 2 ^ level → node < 2 ^ depth
inner_node depth level node deep high =
    let more : 2 ^ (level + 1) ≤ 2 ^ depth = pow-le-pow_right (omega arith) (omega arith) in
    omega (arith, twice level)

pub at_root : (xs : List ℕ) (depth n : ℕ) → n ≤ get_or xs 1 0 → IsReached xs depth n 0 1
at_root xs depth n h = record {
  low = omega arith;
  high = omega arith;
  there = h;
  left = λ j a b c. absurd (omega (arith, c, first j a));
}
  where
    first : (j : ℕ) → 2 ^ depth ≤ j → 1 ≤ ancestor (depth - 0) j
    first j a = let e : depth - 0 ≡ depth = omega arith in rw e (ancestor_low depth 1 j (omega arith))

above : (depth level j : ℕ) → level < depth → ancestor (depth - level) j ≡ ancestor (depth - (level + 1)) j / 2
above depth level j h =
    let e : depth - level ≡ suc (depth - (level + 1)) = omega arith in
    ap (λ k. ancestor k j) e

greater : (a b c n : ℕ) → c ≡ max a b → n ≤ c → a < n → n ≤ b
greater a b c n e h less = omega arith

pub to_left : (xs : List ℕ) (depth n level node next : ℕ) → level < depth → IsReached xs depth n level node
    → next ≡ 2 * node → n ≤ get_or xs next 0 → IsReached xs depth n (level + 1) next
to_left xs depth n level node next deep h e there = record {
  low = omega (arith, twice level, h.low);
  high = omega (arith, twice level, h.high);
  there = there;
  left = λ j a b c. h.left j a b (omega (arith, above depth level j deep, c));
}

pub to_right : (xs : List ℕ) (depth n level node next : ℕ) → IsTree xs (2 ^ depth) → level < depth
    → IsReached xs depth n level node
    → next ≡ 2 * node → get_or xs next 0 < n → IsReached xs depth n (level + 1) (next + 1)
to_right xs depth n level node next t deep h e less = record {
  low = omega (arith, twice level, h.low);
  high = omega (arith, twice level, h.high);
  there = right;
  left = λ j a b c. by_place j a b c (cases_eq (ancestor (depth - (level + 1)) j) next);
}
  where
    right : n ≤ get_or xs (next + 1) 0
    right =
        let winner = t node (omega (arith, h.low, one-le-pow level 2 (omega arith)))
        (inner_node depth level node deep h.high) in
        rw e (greater (get_or xs (2 * node) 0) (get_or xs (2 * node + 1) 0) (get_or xs node 0) n winner h.there
        (rw (← e) less))

    by_place : (j : ℕ) → 2 ^ depth ≤ j → j < 2 * 2 ^ depth → ancestor (depth - (level + 1)) j < next + 1
        → (ancestor (depth - (level + 1)) j ≡ next) ⊎ (ancestor (depth - (level + 1)) j ≢ next) → get_or xs j 0 < n
    by_place j a b c (inl z) =
        let bound = rises xs (2 ^ depth) (depth - (level + 1)) j t b (omega arith) in
        let same : get_or xs (ancestor (depth - (level + 1)) j) 0 ≡ get_or xs next 0 = ap (λ y. get_or xs y 0) z in
        omega (arith, bound, same, less)
    by_place j a b c (inr z) = h.left j a b (omega (arith, above depth level j deep, c))

pub at_leaf : (xs : List ℕ) (depth n level node : ℕ) → level ≡ depth → IsReached xs depth n level node
    → IsFirstFrom xs (2 ^ depth) n node
at_leaf xs depth n level node e h =
    let power : 2 ^ level ≡ 2 ^ depth = ap (λ z. 2 ^ z) e in
    record {
      low = omega (arith, power, h.low);
      high = omega (arith, power, h.high);
      there = h.there;
      first = λ j a b. h.left j a (omega (arith, power, h.high)) (rw (itself j) b);
    }
  where
    itself : (j : ℕ) → ancestor (depth - level) j ≡ j
    itself j = let none : depth - level ≡ 0 = omega arith in ap (λ k. ancestor k j) none

-- the first number

position_at : (n : ℕ) (vs : List ℕ) (i : ℕ) → i < length vs → n ≤ get_or vs i 0 → ((k : ℕ) → k < i → get_or vs k 0 < n)
    → Some i ≡ position (λ v. nat_le n v) vs
position_at n vs i within there before =
    let at : position_or_len (λ v. nat_le n v) vs ≡ i =
    position_or_len_is (λ v. nat_le n v) vs i 0 (omega arith) (λ k h. lt-leb n (get_or vs k 0) (before k h))
    (λ h. le-leb n (get_or vs i 0) there) in
    grind (arith, nat_tests, at)

position_nowhere : (n : ℕ) (vs : List ℕ) → ((k : ℕ) → k < length vs → get_or vs k 0 < n)
    → None ≡ position (λ v. nat_le n v) vs
position_nowhere n vs before =
    let at : position_or_len (λ v. nat_le n v) vs ≡ length vs =
    position_or_len_is (λ v. nat_le n v) vs (length vs) 0 (omega arith) (λ k h. lt-leb n (get_or vs k 0) (before k h))
    (λ h. absurd (omega arith)) in
    grind (arith, nat_tests, at)

pub length_numbers : (xs : List ℕ) (width count : ℕ) → length xs ≡ 2 * width → count ≤ width
    → length (take count (drop width xs)) ≡ count
length_numbers xs width count len le = length-take-le count (drop width xs) (omega (arith, length-drop width xs))

number_at : (xs : List ℕ) (width count k : ℕ) → k < count
    → get_or (take count (drop width xs)) k 0 ≡ get_or xs (width + k) 0
number_at xs width count k h = get_or-take count (drop width xs) k 0 h ∙ get_or-drop width xs k 0

-- the root is too low, so all numbers are
pub found_nowhere : (xs : List ℕ) (depth width count n : ℕ) → width ≡ 2 ^ depth → length xs ≡ 2 * width → count ≤ width
    → IsTree xs width → get_or xs 1 0 < n → None ≡ position (λ v. nat_le n v) (take count (drop width xs))
found_nowhere xs depth width count n e len le t less =
    position_nowhere n (take count (drop width xs))
    (λ k h. each k (omega (arith, length_numbers xs width count len le)))
  where
    each : (k : ℕ) → k < count → get_or (take count (drop width xs)) k 0 < n
    each k h =
        let low = ancestor_low depth 1 (width + k) (omega arith) in
        let high = ancestor_high depth 2 (width + k) (omega arith) in
        let root : ancestor depth (width + k) ≡ 1 = omega (arith, low, high) in
        let same : get_or xs (ancestor depth (width + k)) 0 ≡ get_or xs 1 0 = ap (λ z. get_or xs z 0) root in
        omega (
          arith,
          number_at xs width count k h,
          rises xs width depth (width + k) t (omega arith) (omega arith),
          same,
          less,
        )

-- the leaf that was found has the number's index
pub found_first : (xs : List ℕ) (width count n leaf : ℕ) → 0 < n → length xs ≡ 2 * width → count ≤ width
    → ((i : ℕ) → width + count ≤ i → get_or xs i 0 ≡ 0) → IsFirstFrom xs width n leaf
    → Some (leaf - width) ≡ position (λ v. nat_le n v) (take count (drop width xs))
found_first xs width count n leaf low len le rest h =
    let inside : leaf - width < count = within (cases_lt leaf (width + count)) in
    let size = length_numbers xs width count len le in
    position_at n (take count (drop width xs)) (leaf - width) (omega (arith, size)) (there inside)
    (λ k b. before k b inside)
  where
    within : (leaf < width + count) ⊎ (width + count ≤ leaf) → leaf - width < count
    within (inl a) = omega (arith, h.low)
    within (inr a) = absurd (omega (arith, rest leaf a, h.there))

    there : leaf - width < count → n ≤ get_or (take count (drop width xs)) (leaf - width) 0
    there a =
        let back : width + (leaf - width) ≡ leaf = omega (arith, h.low) in
        let same : get_or xs (width + (leaf - width)) 0 ≡ get_or xs leaf 0 = ap (λ z. get_or xs z 0) back in
        omega (arith, number_at xs width count (leaf - width) a, same, h.there)

    before : (k : ℕ) → k < leaf - width → leaf - width < count → get_or (take count (drop width xs)) k 0 < n
    before k b a =
        omega (arith, number_at xs width count k (omega arith), h.first (width + k) (omega arith) (omega arith))

-- a number replaced

pub leaf_same : (xs ys : List ℕ) (width i : ℕ) → drop width ys ≡ drop width xs → width ≤ i
    → get_or ys i 0 ≡ get_or xs i 0
leaf_same xs ys width i e le =
    let back : width + (i - width) ≡ i = omega arith in
    let at : get_or ys (width + (i - width)) 0 ≡ get_or xs (width + (i - width)) 0 =
    sym (get_or-drop width ys (i - width) 0) ∙ ap (λ zs. get_or zs (i - width) 0) e
    ∙ get_or-drop width xs (i - width) 0 in
    subst (λ z. get_or ys z 0 ≡ get_or xs z 0) back at

pub rest_same : (xs ys : List ℕ) (width count index v i : ℕ) → drop width ys ≡ drop width (set xs (width + index) v)
    → index < count
    → width + count ≤ i → get_or xs i 0 ≡ 0 → get_or ys i 0 ≡ 0
rest_same xs ys width count index v i e within le zeros =
    leaf_same (set xs (width + index) v) ys width i e (omega arith)
    ∙ get_or-set_other xs (width + index) i v 0 (λ z. absurd (omega (arith, z))) ∙ zeros

pub number_set : (xs ys : List ℕ) (width count index v : ℕ) → drop width ys ≡ drop width (set xs (width + index) v)
    → index < count
    → take count (drop width ys) ≡ set (take count (drop width xs)) index v
number_set xs ys width count index v e within =
    ap (take count) (e ∙ drop-set-add width xs index v) ∙ take-set-lt count (drop width xs) index v within

-- a new list

zero_past : (n i : ℕ) → get_or (replicate {A = ℕ} n 0) i 0 ≡ 0
zero_past zero i = refl
zero_past (suc n) zero = refl
zero_past (suc n) (suc i) = zero_past n i

past_first : (xs : List ℕ) (n i : ℕ) → length xs ≤ i → get_or (xs ++ replicate {A = ℕ} n 0) i 0 ≡ 0
past_first [] n i h = zero_past n i
past_first (x ∷ xs) n zero h = absurd (omega arith)
past_first (x ∷ xs) n (suc i) h = past_first xs n i (omega arith)

-- zeros, copies of a number, and zeros again, as three calls of `resize` make them
pub rest_zero : (width count v i : ℕ) (xs ys zs : List ℕ) → length xs ≡ width
    → ys ≡ take (width + count) xs ++ replicate (width + count - width) v
    → zs ≡ take (2 * width) ys ++ replicate (2 * width - (width + count)) 0 → width + count ≤ i → get_or zs i 0 ≡ 0
rest_zero width count v i xs ys zs len more all le =
    rw all (past_first (take (2 * width) ys) (2 * width - (width + count)) i filled)
  where
    filled : length (take (2 * width) ys) ≤ i
    filled =
        let copies = replicate (width + count - width) v in
        let size = ap length more ∙ length-append (take (width + count) xs) copies in
        omega (
          arith,
          length-take (2 * width) ys,
          size,
          length-take (width + count) xs,
          length-replicate (width + count - width) v,
        )
