-- Next fit, object by object, is the plan's next fit.
use Rattle.std.proofs.Common.{◌≡◌, ℕ, ◌+◌, ◌-◌, ◌<◌, ◌≤◌, Bool, true, false, List, [], ◌∷◌, ◌++◌, cond}
use Rattle.std.proofs.Common.{zero, suc, drop, length, map, nat_le, refl, sym, ap, ◌∙◌, subst, arith, Option, Some, None}
use Rattle.std.proofs.lemmas.Bool.{leb-false}
use Rattle.std.proofs.lemmas.List.{drop_all}
use Rattle.std.proofs.lemmas.Option.{same_Some}
use Rattle.std.specs.List.{slice_get, sum_by}
use Rattle.std.specs.Prelude.{IfSome, option_map}
use Rattle.std.proofs.lemmas.List.Sums.{sum_by-cons}
use Rattle.model.specs.States.{HeapState}
use Rattle.model.specs.Plans.{offsets_from, live_offsets, places_from, target_count}
use Rattle.model.proofs.OfPages.{of_page_none, of_page_some}
use Rattle.choosing.specs.declared.packing.Packing.{Packing}
use Rattle.forward.specs.Sizes.{words_before}
use Rattle.forward.proofs.Summed.{before_grows, before_more, size_read}
use Rattle.choosing.specs.Packings.{pack, pack_one, packed_there, first_packing}
use Rattle.choosing.specs.Choices.{size_on, sizes_on}

-- one more object
pub pack_next : (w : ℕ) (f : ℕ → ℕ) (s new whole : Packing) (left rest : List ℕ) (k : ℕ) → left ≡ k ∷ rest
    → pack w s (map f left) ≡ whole → new ≡ pack_one w s (f k) → pack w new (map f rest) ≡ whole
pack_next w f s new whole left rest k is so more =
    ap (λ z. pack w z (map f rest)) more ∙ sym (ap (λ l. pack w s (map f l)) is) ∙ so

pub pack_all : (w : ℕ) (f : ℕ → ℕ) (s whole : Packing) (left : List ℕ) → left ≡ [] → pack w s (map f left) ≡ whole → s
    ≡ whole
pack_all w f s whole left none so = sym (ap (λ l. pack w s (map f l)) none) ∙ so

module _ (h : HeapState) (n : ℕ) (low : 0 < n) (s : Packing) where
  pub none_packed : slice_get h.live (n - 1) ≡ None → s ≡ pack h.store.words s (sizes_on h n)
  unfolding live_offsets
  none_packed e = ap (λ row. pack h.store.words s (map (size_on h n) (offsets_from 0 row)))
      (sym (of_page_none h.live n low e))

  pub row_packed : (r : List Bool) → slice_get h.live (n - 1) ≡ Some r
      → pack h.store.words s (map (size_on h n) (offsets_from 0 r)) ≡ pack h.store.words s (sizes_on h n)
  unfolding live_offsets
  row_packed r e = ap (λ row. pack h.store.words s (map (size_on h n) (offsets_from 0 row)))
      (sym (of_page_some h.live n r low e))

-- objects after others
pub pack_behind : (w : ℕ) (s : Packing) (ms ns : List ℕ) → pack w s (ms ++ ns) ≡ pack w (pack w s ms) ns
pack_behind w s [] ns = refl
pack_behind w s (m ∷ ms) ns = pack_behind w (pack_one w s m) ms ns

-- how many targets these places are in; a given number if there are none
abbrev count_or : ℕ → List (ℕ × ℕ) → ℕ
count_or c [] = c
count_or c (p ∷ ps) = target_count (p ∷ ps)

more_places : (p : ℕ × ℕ) (ps : List (ℕ × ℕ)) → target_count (p ∷ ps) ≡ count_or (p.0 + 1) ps
more_places p [] = refl
more_places p (q ∷ ps) = refl

-- after an object that fits, and after one that opens a target
abbrev fits : Packing → ℕ → Packing
fits s n = record { target = s.target; offset = s.offset + n; count = s.target + 1 }

abbrev opens : Packing → ℕ → Packing
opens s n = record { target = s.target + 1; offset = n; count = s.target + 2 }

counted : (w : ℕ) (s : Packing) (ns : List ℕ) → count_or s.count (places_from w s.target s.offset ns)
    ≡ (pack w s ns).count
unfolding pack_one
counted w s [] = refl
counted w s (n ∷ ns) = by (nat_le (s.offset + n) w) (counted w (fits s n) ns) (counted w (opens s n) ns)
  where
    by : (b : Bool) → count_or (s.target + 1) (places_from w s.target (s.offset + n) ns) ≡ (pack w (fits s n) ns).count
        → count_or (s.target + 2) (places_from w (s.target + 1) n ns) ≡ (pack w (opens s n) ns).count
        → count_or s.count (cond b ((s.target, s.offset) ∷ places_from w s.target (s.offset + n) ns)
        ((s.target + 1, 0) ∷ places_from w (s.target + 1) n ns))
        ≡ (pack w (cond b (fits s n) (opens s n)) ns).count
    by true x y = more_places (s.target, s.offset) (places_from w s.target (s.offset + n) ns) ∙ x
    by false x y = more_places (s.target + 1, 0) (places_from w (s.target + 1) n ns)
        ∙ ap (λ c. count_or c (places_from w (s.target + 1) n ns)) (omega arith) ∙ y

no_places : (ps : List (ℕ × ℕ)) → target_count ps ≡ count_or 0 ps
no_places [] = refl
no_places (p ∷ ps) = refl

-- its count is that of the targets of the plan
pub targets_counted : (w : ℕ) (ns : List ℕ) → target_count (places_from w 0 0 ns) ≡ (pack w first_packing ns).count
targets_counted w ns = no_places (places_from w 0 0 ns) ∙ counted w first_packing ns

-- there are no fewer targets after more objects, and the present one is the last
pub record IsGrown (s t : Packing) : Type 0 where
  pub more : s.count ≤ t.count
  pub last : t.count ≤ t.target + 1
  pub there : t.target ≤ t.count

one_grown : (w : ℕ) (s : Packing) (n : ℕ) → s.count ≤ s.target + 1 → IsGrown s (pack_one w s n)
unfolding pack_one
one_grown w s n last = by (nat_le (s.offset + n) w)
  where
    by : (b : Bool) → IsGrown s (cond b (record { target = s.target; offset = s.offset + n; count = s.target + 1 })
        (record { target = s.target + 1; offset = n; count = s.target + 2 }))
    by true = record { more = last; last = omega arith; there = omega arith }
    by false = record { more = omega (arith, last); last = omega arith; there = omega arith }

pub grown : (w : ℕ) (s : Packing) (ns : List ℕ) → s.count ≤ s.target + 1 → s.target ≤ s.count → IsGrown s (pack w s ns)
grown w s [] last there = record { more = omega arith; last = last; there = there }
grown w s (n ∷ ns) last there =
    let one = one_grown w s n last in
    let rest = grown w (pack_one w s n) ns one.last one.there in
    record { more = omega (arith, one.more, rest.more); last = rest.last; there = rest.there }

-- an object is the first of those from its number on
left_from : (ns : List ℕ) (i n : ℕ) → slice_get ns i ≡ Some n → drop i ns ≡ n ∷ drop (suc i) ns
left_from [] i n k = absurd (cc)
left_from (m ∷ ns) zero n k = ap (λ x. x ∷ ns) (same_Some m n k)
left_from (m ∷ ns) (suc i) n k = left_from ns i n k

-- objects of these sizes are packed one after another
pub more_packed : (w : ℕ) (s new whole : Packing) (ns : List ℕ) (i n : ℕ) → slice_get ns i ≡ Some n
    → new ≡ pack_one w s n → pack w s (drop i ns) ≡ whole → pack w new (drop (i + 1) ns) ≡ whole
more_packed w s new whole ns i n e more so_far =
    let one : suc i ≡ i + 1 = omega arith in
    ap (λ z. pack w z (drop (i + 1) ns)) more ∙ ap (λ k. pack w (pack_one w s n) (drop k ns)) (sym one)
    ∙ sym (ap (pack w s) (left_from ns i n e)) ∙ so_far

pub all_packed : (w : ℕ) (s whole : Packing) (ns : List ℕ) (i : ℕ) → length ns ≤ i → pack w s (drop i ns) ≡ whole
    → s ≡ whole
all_packed w s whole ns i l so_far = ap (pack w s) (sym (drop_all i ns l)) ∙ so_far

-- an object that fits is packed there
one_there : (w : ℕ) (s : Packing) (n : ℕ) → s.offset + n ≤ w → pack_one w s n ≡ packed_there s n
unfolding pack_one
one_there w s n l = by_test (nat_le (s.offset + n) w) refl
  where
    by_test : (b : Bool) → nat_le (s.offset + n) w ≡ b → cond b (packed_there s n)
        (record { target = s.target + 1; offset = n; count = s.target + 2 }) ≡ packed_there s n
    by_test true e = refl
    by_test false e = absurd (omega (arith, l, leb-false (s.offset + n) w e))

-- objects that fit together are packed there
all_there : (w : ℕ) (f : ℕ → ℕ) (s : Packing) (k : ℕ) (ks : List ℕ) → s.offset + sum_by f (k ∷ ks) ≤ w
    → packed_there s (sum_by f (k ∷ ks)) ≡ pack w s (map f (k ∷ ks))
all_there w f s k [] l =
    let one : sum_by f (k ∷ []) ≡ f k = omega (arith, sum_by-cons f k []) in
    ap (packed_there s) one ∙ sym (one_there w s (f k) (omega (arith, l, one)))
all_there w f s k (m ∷ ks) l =
    let more : sum_by f (k ∷ m ∷ ks) ≡ f k + sum_by f (m ∷ ks) = sum_by-cons f k (m ∷ ks) in
    let offset : s.offset + sum_by f (k ∷ m ∷ ks) ≡ s.offset + f k + sum_by f (m ∷ ks) = omega (arith, more) in
    ap (λ o. record { target = s.target; offset = o; count = s.target + 1 }) offset
    ∙ all_there w f (packed_there s (f k)) m ks (omega (arith, l, offset))
    ∙ ap (λ z. pack w z (map f (m ∷ ks))) (sym (one_there w s (f k) (omega (arith, l, more))))

pub pack_left : (w : ℕ) (f : ℕ → ℕ) (s new whole : Packing) (left rest : List ℕ) (k n : ℕ) → left ≡ k ∷ rest
    → pack w s (map f left) ≡ whole → n ≡ sum_by f left → s.offset + n ≤ w → new ≡ packed_there s n → new ≡ whole
pack_left w f s new whole left rest k n is so sum fits packed =
    let all : n ≡ sum_by f (k ∷ rest) = sum ∙ ap (sum_by f) is in
    packed ∙ ap (packed_there s) all ∙ all_there w f s k rest (omega (arith, fits, all))
    ∙ sym (ap (λ l. pack w s (map f l)) is) ∙ so

-- how many words are left after one more
pub less_left : (f : ℕ → ℕ) (left rest : List ℕ) (k size : ℕ) (o after : Option ℕ) → left ≡ k ∷ rest → size ≡ f k
    → IfSome o (λ n. n ≡ sum_by f left) → after ≡ option_map (λ n. n - size) o → IfSome after (λ n. n ≡ sum_by f rest)
less_left f left rest k size o after is same known e =
    subst (λ x. IfSome x (λ n. n ≡ sum_by f rest)) (sym e) (by_some o known)
  where
    by_some : (o : Option ℕ) → IfSome o (λ n. n ≡ sum_by f left)
        → IfSome (option_map (λ n. n - size) o) (λ n. n ≡ sum_by f rest)
    by_some None known = tt
    by_some (Some n) known = omega (arith, known, ap (sum_by f) is, sum_by-cons f k rest, same)

pub enough_left : (f : ℕ → ℕ) (left rest : List ℕ) (k size : ℕ) (o : Option ℕ) → left ≡ k ∷ rest → size ≡ f k
    → IfSome o (λ n. n ≡ sum_by f left) → IfSome o (λ n. size ≤ n)
enough_left f left rest k size None is same known = tt
enough_left f left rest k size (Some n) is same known =
    omega (arith, known, ap (sum_by f) is, sum_by-cons f k rest, same)

-- the first of the objects from number i up to j that fit together is packed there, and the others fit after it
module _ (w : ℕ) (s : Packing) (ns : List ℕ) (i j : ℕ) (low : i < j) (l : j ≤ length ns)
    (fits : s.offset + (words_before ns j - words_before ns i) ≤ w) where
  abbrev first_size : ℕ
  first_size = words_before ns (suc i) - words_before ns i

  there : slice_get ns i ≡ Some first_size
  there = size_read ns i (omega (arith, low, l))

  step : words_before ns (suc i) ≡ words_before ns i + first_size
  step = before_more ns i first_size there

  up : words_before ns (suc i) ≤ words_before ns j
  up = before_grows ns (suc i) j (omega (arith, low))

  first_there : pack w s (drop i ns) ≡ pack w (packed_there s first_size) (drop (suc i) ns)
  first_there = ap (pack w s) (left_from ns i first_size there)
      ∙ ap (λ z. pack w z (drop (suc i) ns)) (one_there w s first_size (omega (arith, fits, step, up)))

  both : s.offset + first_size + (words_before ns j - words_before ns (suc i))
      ≡ s.offset + (words_before ns j - words_before ns i)
  both = omega (arith, step, up)

-- so are all of them
up_to : (w : ℕ) (s : Packing) (ns : List ℕ) (i j k : ℕ) → j ≡ i + suc k → j ≤ length ns
    → s.offset + (words_before ns j - words_before ns i) ≤ w
    → pack w s (drop i ns) ≡ pack w (packed_there s (words_before ns j - words_before ns i)) (drop j ns)
up_to w s ns i j zero e l fits =
    let is : suc i ≡ j = omega (arith, e) in
    first_there w s ns i j (omega (arith, e)) l fits
    ∙ ap (λ m. pack w (packed_there s (words_before ns m - words_before ns i)) (drop m ns)) is
up_to w s ns i j (suc k) e l fits =
    let low : i < j = omega (arith, e) in
    let sum = both w s ns i j low l fits in
    first_there w s ns i j low l fits
    ∙ up_to w (packed_there s (first_size w s ns i j low l fits)) ns (suc i) j k (omega (arith, e)) l
    (omega (arith, sum, fits))
    ∙ ap (λ o. pack w (record { target = s.target; offset = o; count = s.target + 1 }) (drop j ns)) sum

pub packed_up_to : (w : ℕ) (s new whole : Packing) (ns : List ℕ) (i j : ℕ) → i < j → j ≤ length ns
    → s.offset + (words_before ns j - words_before ns i) ≤ w
    → new ≡ packed_there s (words_before ns j - words_before ns i) → pack w s (drop i ns) ≡ whole
    → pack w new (drop j ns) ≡ whole
packed_up_to w s new whole ns i j low l fits is so_far =
    let e : j ≡ i + suc (j - i - 1) = omega (arith, low) in
    ap (λ z. pack w z (drop j ns)) is ∙ sym (up_to w s ns i j (j - i - 1) e l fits) ∙ so_far
