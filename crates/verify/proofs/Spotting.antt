-- Spots by pages, as the list of all.
use Rattle.std.proofs.Common.{◌≡◌, ◌≢◌, inl, inr, ℕ, zero, suc, ◌+◌, ◌-◌, ◌*◌, ◌/◌, ◌%◌, ◌<◌, ◌≤◌, List, []}
use Rattle.std.proofs.Common.{◌∷◌, ◌++◌, cond, length, get_or, take, Option, Some, None, refl, sym, ◌∙◌, ap, subst}
use Rattle.std.proofs.Common.{arith}
use Rattle.std.proofs.Common.{div-add-mod', get_or-set_other}
use Rattle.std.specs.List.{count_by, slice_set}
use Rattle.std.proofs.lemmas.Bool.{cases_eq, cases_lt}
use Rattle.std.proofs.lemmas.List.{get_or_past, get_or-set_same, length-set, ext_get_or, get_or_read, take_all}
use Rattle.std.proofs.lemmas.List.{take_more}
use Rattle.std.proofs.lemmas.List.Sums.{sum_by-append, sum_by-cons}
use Rattle.std.proofs.lemmas.List.FromFn.{get_or-map-range_with_len, length-map-range_with_len}
use Rattle.std.proofs.lemmas.Nat.{div-mul-add, mod-mul-add}
use Rattle.verify.specs.declared.spots.Spot.{Spot}
use Rattle.verify.specs.declared.spots.Spot.TheVariants.{Empty, Reached}
use Rattle.verify.specs.Spots.{spot_on, spots_of, AreSpots, IsNextFilled}
use Rattle.verify.specs.Walks.{spot_at, is_unseen}

-- addresses of one page
pub same_page : (w a d : ℕ) → a % w + d < w → ((a + d) / w ≡ a / w) × ((a + d) % w ≡ a % w + d)
same_page w a d l =
    let e : a + d ≡ a / w * w + (a % w + d) = omega (arith, div-add-mod' a w) in (
      ap (λ z. z / w) e ∙ div-mul-add (a / w) w (a % w + d) l,
      ap (λ z. z % w) e ∙ mod-mul-add (a / w) w (a % w + d) l,
    )

module _ (w n : ℕ) (ps : List (List Spot)) where
  pub spots_length : length (spots_of w n ps) ≡ n
  unfolding spots_of
  spots_length = length-map-range_with_len (spot_on w ps) 0 n

  pub spot_read : (a : ℕ) → a < n → spot_at (spots_of w n ps) a ≡ spot_on w ps a
  unfolding spots_of
  spot_read a l = get_or-map-range_with_len (spot_on w ps) 0 n a a Empty l (omega arith)

  pub spot_past : (a : ℕ) → n ≤ a → spot_at (spots_of w n ps) a ≡ Empty
  spot_past a l = get_or_past (spots_of w n ps) a Empty (omega (arith, l, spots_length))

  -- a spot that isn't empty is at one of the addresses, on a page that has its offset
  pub record IsThere (a : ℕ) : Type 0 where
    pub within : a < n
    pub page : a / w < length ps
    pub offset : a % w < length (get_or ps (a / w) [])

  pub filled_there : (a : ℕ) → spot_at (spots_of w n ps) a ≢ Empty → IsThere a
  filled_there a f = elim (cases_lt a n) [
    | inr l ↦ absurd (f (spot_past a l))
    | inl l ↦ elim (cases_lt (a % w) (length (get_or ps (a / w) []))) [
      | inr m ↦ absurd (f (spot_read a l ∙ get_or_past (get_or ps (a / w) []) (a % w) Empty m))
      | inl m ↦ elim (cases_lt (a / w) (length ps)) [
        | inl k ↦ record { within = l; page = k; offset = m }
        | inr k ↦ absurd (none (get_or ps (a / w) []) (get_or_past ps (a / w) [] k) m)
      ]
    ]
  ]
    where
      none : (p : List Spot) → p ≡ [] → a % w < length p → ⊥
      none p e m = absurd (omega (arith, m, ap length e))

-- an address that is reached, on its page
module _ (w n : ℕ) (ps : List (List Spot)) (a : ℕ) (f : spot_at (spots_of w n ps) a ≢ Empty) where
  there : IsThere w n ps a
  there = filled_there w n ps a f

  abbrev page : List Spot
  page = get_or ps (a / w) []

  abbrev after : List (List Spot)
  after = slice_set ps (a / w) (slice_set page (a % w) Reached)

  -- the spot at another address, or at this one
  on_page : (i : ℕ) → i / w ≡ a / w → spot_on w after i ≡ spot_at (slice_set page (a % w) Reached) (i % w)
  on_page i e = ap (λ q. spot_at q (i % w)) (ap (λ k. get_or after k []) e
      ∙ get_or-set_same ps (a / w) (slice_set page (a % w) Reached) [] there.page)

  elsewhere : (i : ℕ) → i / w ≢ a / w → spot_on w after i ≡ spot_on w ps i
  elsewhere i d = ap (λ q. spot_at q (i % w))
      (get_or-set_other ps (a / w) (i / w) (slice_set page (a % w) Reached) [] d)

  same_address : (i : ℕ) → i / w ≡ a / w → i % w ≡ a % w → i ≡ a
  same_address i e k =
      let base : i / w * w ≡ a / w * w = ap (λ q. q * w) e in
      omega (arith, div-add-mod' i w, div-add-mod' a w, base, k)

  here : spot_on w after a ≡ Reached
  here = on_page a refl ∙ get_or-set_same page (a % w) Reached Empty there.offset

  other : (i : ℕ) → i ≢ a → spot_on w after i ≡ spot_on w ps i
  other i d = elim (cases_eq (i / w) (a / w)) [
    | inr z ↦ elsewhere i z
    | inl e ↦ elim (cases_eq (i % w) (a % w)) [
      | inl k ↦ absurd (d (same_address i e k))
      | inr k ↦ on_page i e ∙ get_or-set_other page (a % w) (i % w) Reached Empty k
          ∙ ap (λ q. spot_at (get_or ps q []) (i % w)) (sym e)
    ]
  ]

  pub reach_is : spots_of w n after ≡ slice_set (spots_of w n ps) a Reached
  reach_is = ext_get_or Empty (spots_of w n after) (slice_set (spots_of w n ps) a Reached)
      (spots_length w n after ∙ sym (length-set (spots_of w n ps) a Reached ∙ spots_length w n ps)) each
    where
      each : (i : ℕ) → i < length (spots_of w n after)
          → get_or (spots_of w n after) i Empty ≡ get_or (slice_set (spots_of w n ps) a Reached) i Empty
      each i l =
          let under : i < n = omega (arith, l, spots_length w n after) in
          elim (cases_eq i a) [
            | inl e ↦ ap (spot_at (spots_of w n after)) e ∙ spot_read w n after a there.within ∙ here
                ∙ sym (ap (spot_at (slice_set (spots_of w n ps) a Reached)) e
                ∙ get_or-set_same (spots_of w n ps) a Reached Empty
                (omega (arith, there.within, spots_length w n ps)))
            | inr d ↦ spot_read w n after i under ∙ other i d
                ∙ sym (get_or-set_other (spots_of w n ps) a i Reached Empty d ∙ spot_read w n ps i under)
          ]

  -- the pages' lists stay within their length
  pub reach_keeps : AreSpots w n ps → AreSpots w n after
  reach_keeps k = record {
    sized = k.sized;
    few = k.few;
    short = λ q. elim (cases_eq q (a / w)) [
      | inl e ↦ omega (
        arith,
        k.short (a / w),
        ap length (ap (λ i. get_or after i []) e
            ∙ get_or-set_same ps (a / w) (slice_set page (a % w) Reached) [] there.page),
        length-set page (a % w) Reached,
      )
      | inr d ↦ omega (
        arith,
        k.short q,
        ap length (get_or-set_other ps (a / w) q (slice_set page (a % w) Reached) [] d),
      )
    ];
  }

-- the same, in terms of what was read and written on the way
pub reach_read : (w n v : ℕ) (ps : List (List Spot)) (xs : List Spot) (a : ℕ) (p q : List Spot)
    → spots_of w n ps ≡ xs → v ≡ w → spot_at xs a ≢ Empty → p ≡ get_or ps (a / v) p → q ≡ slice_set p (a % v) Reached
    → spots_of w n (slice_set ps (a / v) q) ≡ slice_set xs a Reached
reach_read w n v ps xs a p q view same f read is =
    let filled = subst (λ ys. spot_at ys a ≢ Empty) (sym view) f in
    let page : a / v ≡ a / w = ap (λ u. a / u) same in
    let within : a / v < length ps = omega (arith, page, (filled_there w n ps a filled).page) in
    let old : p ≡ get_or ps (a / w) [] =
    get_or_read ps (a / v) p within read [] ∙ ap (λ k. get_or ps k []) page in
    let new : q ≡ slice_set (get_or ps (a / w) []) (a % w) Reached =
    is ∙ ap (λ u. slice_set p (a % u) Reached) same ∙ ap (λ r. slice_set r (a % w) Reached) old in
    ap (λ k. spots_of w n (slice_set ps k q)) page ∙ ap (λ r. spots_of w n (slice_set ps (a / w) r)) new
    ∙ reach_is w n ps a filled ∙ ap (λ ys. slice_set ys a Reached) view

-- the next object

module _ (w n : ℕ) (ps : List (List Spot)) (k : AreSpots w n ps) where
  abbrev all : List Spot
  all = spots_of w n ps

  -- an address of the page of another one, after it
  behind : (a b : ℕ) → a ≤ b → b < a + (w - a % w)
      → spot_on w ps b ≡ spot_at (get_or ps (a / w) []) (a % w + (b - a))
  behind a b low high =
      let e : b ≡ a + (b - a) = omega (arith, low) in
      let s = same_page w a (b - a) (omega (arith, low, high)) in
      ap (spot_on w ps) e ∙ ap (λ q. spot_at (get_or ps q []) ((a + (b - a)) % w)) s.0
      ∙ ap (spot_at (get_or ps (a / w) [])) s.1

  -- if a page has no object from an address on, there is none up to the page's end
  pub none_behind : (a b : ℕ) → IsNextFilled (get_or ps (a / w) []) (a % w) None → a ≤ b → b < a + (w - a % w)
      → spot_at all b ≡ Empty
  none_behind a b none low high = elim (cases_lt b n) [
    | inr l ↦ spot_past w n ps b l
    | inl l ↦ spot_read w n ps b l ∙ behind a b low high ∙ none (a % w + (b - a)) (omega arith)
  ]

  -- if it has one, there is none before it
  pub none_before : (a o b : ℕ) → IsNextFilled (get_or ps (a / w) []) (a % w) (Some o) → a ≤ b → b < a + (o - a % w)
      → spot_at all b ≡ Empty
  none_before a o b next low high = elim (cases_lt b n) [
    | inr l ↦ spot_past w n ps b l
    | inl l ↦ spot_read w n ps b l
        ∙ behind a b low (omega (arith, high, next.1, k.short (a / w)))
        ∙ next.3 (a % w + (b - a)) (omega arith) (omega (arith, low, high))
  ]

  -- and this one exists
  pub next_there : (a o : ℕ) → IsNextFilled (get_or ps (a / w) []) (a % w) (Some o) → a + (o - a % w) < n
      → spot_at all (a + (o - a % w)) ≢ Empty
  next_there a o next l e =
      let sum : a % w + (a + (o - a % w) - a) ≡ o = omega (arith, next.0) in
      next.2 (sym (spot_read w n ps (a + (o - a % w)) l
      ∙ behind a (a + (o - a % w)) (omega arith) (omega (arith, next.0, next.1, k.short (a / w)))
      ∙ ap (spot_at (get_or ps (a / w) [])) sum) ∙ e)

-- the result of a search that reads words v and pages qs, for the list xs
module _ (w n v : ℕ) (ps qs : List (List Spot)) (xs : List Spot) (k : AreSpots w n ps) (view : spots_of w n ps ≡ xs)
    (same : v ≡ w) (read : qs ≡ ps) (from at : ℕ) (low : from ≤ at)
    (none : (b : ℕ) → from ≤ b → b < at → spot_at (spots_of w n ps) b ≡ Empty) where
  next_of : (o : Option ℕ) → IsNextFilled (get_or qs (at / v) []) (at % v) o
      → IsNextFilled (get_or ps (at / w) []) (at % w) o
  next_of o h = subst (λ u. IsNextFilled (get_or ps (at / u) []) (at % u) o) same
      (subst (λ rs. IsNextFilled (get_or rs (at / v) []) (at % v) o) read h)

  pub found : (o : ℕ) → IsNextFilled (get_or qs (at / v) []) (at % v) (Some o) → at + (o - at % v) < n
      → IsNextFilled xs from (Some (at + (o - at % v)))
  found o h l =
      let next = next_of (Some o) h in
      let place : at % v ≡ at % w = ap (λ u. at % u) same in
      subst (λ m. IsNextFilled xs from (Some (at + (o - m)))) (sym place)
      (subst (λ ys. IsNextFilled ys from (Some (at + (o - at % w)))) view (
        omega (arith, low),
        omega (arith, l, place, spots_length w n ps),
        next_there w n ps k at o next (omega (arith, l, place)),
        λ b under over. elim (cases_lt b at) [
          | inl z ↦ none b under z
          | inr z ↦ none_before w n ps k at o b next z over
        ],
      ))

  pub found_past : (o : ℕ) → IsNextFilled (get_or qs (at / v) []) (at % v) (Some o) → n ≤ at + (o - at % v)
      → IsNextFilled xs from None
  found_past o h l =
      let next = next_of (Some o) h in
      let place : at % v ≡ at % w = ap (λ u. at % u) same in
      subst (λ ys. IsNextFilled ys from None) view (λ b under. elim (cases_lt b at) [
        | inl z ↦ none b under z
        | inr z ↦ elim (cases_lt b (at + (o - at % w))) [
          | inl y ↦ none_before w n ps k at o b next z y
          | inr y ↦ spot_past w n ps b (omega (arith, y, l, place))
        ]
      ])

  pub passed : IsNextFilled (get_or qs (at / v) []) (at % v) None → (b : ℕ) → from ≤ b → b < at + (v - at % v)
      → spot_at (spots_of w n ps) b ≡ Empty
  passed h b under over =
      let next = next_of None h in
      let place : at % v ≡ at % w = ap (λ u. at % u) same in
      elim (cases_lt b at) [
        | inl z ↦ none b under z
        | inr z ↦ none_behind w n ps k at b next z (omega (arith, over, place, same))
      ]

  pub ended : n ≤ at → IsNextFilled xs from None
  ended l = subst (λ ys. IsNextFilled ys from None) view (λ b under. elim (cases_lt b at) [
    | inl z ↦ none b under z
    | inr z ↦ spot_past w n ps b (omega (arith, z, l))
  ])

-- counting

-- how many of the first spots are unseen
abbrev pub unseen_below : List Spot → ℕ → ℕ
unseen_below spots i = count_by is_unseen (take i spots)

-- 1 for an unseen spot, else 0
abbrev pub as_one : Spot → ℕ
as_one s = cond (is_unseen s) 1 0

one_more : (spots : List Spot) (i : ℕ) → i < length spots
    → unseen_below spots (i + 1) ≡ unseen_below spots i + as_one (spot_at spots i)
one_more spots i l = ap (count_by is_unseen) (take_more spots i Empty l)
    ∙ counted (take i spots) (spot_at spots i)
  where
    counted : (xs : List Spot) (x : Spot) → count_by is_unseen (xs ++ x ∷ []) ≡ count_by is_unseen xs + as_one x
    counted xs x = omega (arith, sum_by-append as_one xs (x ∷ []), sum_by-cons as_one x [])

-- empty spots aren't counted
none_more : (spots : List Spot) (i m : ℕ) → ((b : ℕ) → i ≤ b → b < i + m → spot_at spots b ≡ Empty)
    → unseen_below spots (i + m) ≡ unseen_below spots i
none_more spots i zero e = let z : i + 0 ≡ i = omega arith in ap (unseen_below spots) z
none_more spots i (suc m) e =
    let z : i + suc m ≡ i + m + 1 = omega arith in
    let before = none_more spots i m (λ b low high. e b low (omega (arith, high))) in
    ap (unseen_below spots) z ∙ elim (cases_lt (i + m) (length spots)) [
      | inl l ↦ (
          let none : as_one (spot_at spots (i + m)) ≡ 0 = ap as_one (e (i + m) (omega arith) (omega arith)) in
          omega (arith, one_more spots (i + m) l, none, before)
          )
      | inr l ↦ ap (count_by is_unseen)
          (take_all (i + m + 1) spots (omega (arith, l)) ∙ sym (take_all (i + m) spots l)) ∙ before
    ]

-- up to the next object, and after it
pub unseen_next : (spots : List Spot) (from a count : ℕ) → IsNextFilled spots from (Some a)
    → count ≡ unseen_below spots from → unseen_below spots (a + 1) ≡ count + as_one (spot_at spots a)
unseen_next spots from a count next c =
    let e : from + (a - from) ≡ a = omega (arith, next.0) in
    let before = none_more spots from (a - from) (λ b low high. next.3 b low (omega (arith, high, e))) in
    let same : unseen_below spots (from + (a - from)) ≡ unseen_below spots a = ap (unseen_below spots) e in
    omega (arith, one_more spots a next.1, before, same, c)

-- if there is none
pub unseen_all : (spots : List Spot) (from count : ℕ) → IsNextFilled spots from None → count ≡ unseen_below spots from
    → count ≡ count_by is_unseen spots
unseen_all spots from count none c =
    c ∙ sym (none_more spots from (length spots) (λ b low high. none b low))
    ∙ ap (count_by is_unseen) (take_all (from + length spots) spots (omega arith))
