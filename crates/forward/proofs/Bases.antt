-- Addresses as distances from bases.
use Rattle.std.proofs.Common.{◌≡◌, ℕ, zero, suc, ◌+◌, ◌-◌, ◌%◌, ◌^◌, ◌<◌, ◌≤◌, Bool, true, false, cond, nat_le, List}
use Rattle.std.proofs.Common.{[]}
use Rattle.std.proofs.Common.{◌∷◌, ◌++◌, length, take, drop, map, set, get_or, Some, refl, sym, ◌∙◌, ap, ap₂, subst}
use Rattle.std.proofs.Common.{arith, length-append}
use Rattle.std.specs.Prelude.{◌==◌, option_map}
use Rattle.std.specs.List.{slice_get}
use Rattle.std.proofs.lemmas.Bool.{leb-true, leb-false}
use Rattle.std.proofs.lemmas.Bool.Decides.{nat_tests}
use Rattle.std.proofs.lemmas.List.{length-map, take_all, take_more}
use Rattle.std.proofs.lemmas.List.Sums.{sum_by-cons}
use Rattle.std.proofs.lemmas.Option.{get_or_from_slice_get, same_Some, slice_get-get_or, slice_get-map}
use Rattle.model.specs.Owning.{Each}
use Rattle.model.specs.Plans.{address_in}
use Rattle.model.proofs.Lists.{same_lists}
use Rattle.refword.specs.Words.{IsAddress}
use Rattle.forward.specs.declared.runs.Run.{Run}
use Rattle.forward.specs.Bases.{IsLastRun, addresses_from, base_of, based, head_of, run_base, run_on}
use Rattle.forward.specs.Runs.{AreBegun, last_with, place_in, places_in, run_of, runs_with}
use Rattle.forward.specs.Sizes.{sums_of, words_before}
use Rattle.forward.proofs.Packed.{run_knows, places_many}

-- lists that are read by numbers

pub addresses_many : (b : ℕ) (rs : List Run) (j : ℕ) (ds : List ℕ) → length (addresses_from b rs j ds) ≡ length ds
addresses_many b rs j [] = refl
addresses_many b rs j (d ∷ ds) = ap suc (addresses_many b rs (j + 1) ds)

address_read : (b : ℕ) (rs : List Run) (j : ℕ) (ds : List ℕ) (i k d : ℕ) → slice_get ds i ≡ Some d → k ≡ j + i
    → slice_get (addresses_from b rs j ds) i ≡ Some (based (base_of b rs k) d)
address_read b rs j [] i k d e f = absurd (cc)
address_read b rs j (x ∷ ds) zero k d e f =
    let at : j ≡ k = omega (arith, f) in ap₂ (λ y z. Some (based (base_of b rs y) z)) at (same_Some x d e)
address_read b rs j (x ∷ ds) (suc i) k d e f = address_read b rs (j + 1) ds i k d e (omega (arith, f))

sum_read : (b : ℕ) (ns : List ℕ) (i c : ℕ) → i < length ns → c ≡ b + words_before ns i
    → slice_get (sums_of b ns) i ≡ Some c
sum_read b [] i c l e = absurd (omega (arith, l))
sum_read b (n ∷ ns) zero c l e = let is : b ≡ c = omega (arith, e) in ap Some is
sum_read b (n ∷ ns) (suc i) c l e =
    sum_read (b + n) ns i c (omega (arith, l)) (omega (arith, e, sum_by-cons (λ (x : ℕ). x) n (take i ns)))

sums_many : (b : ℕ) (ns : List ℕ) → length (sums_of b ns) ≡ length ns
sums_many b [] = refl
sums_many b (n ∷ ns) = ap suc (sums_many (b + n) ns)

place_read : (r : Run) (rs : List Run) (j b : ℕ) (ns : List ℕ) (i k c : ℕ) → i < length ns → k ≡ j + i
    → c ≡ b + words_before ns i → slice_get (places_in r rs j b ns) i ≡ Some (place_in (run_of r rs k) c)
place_read r rs j b [] i k c l e f = absurd (omega (arith, l))
place_read r rs j b (n ∷ ns) zero k c l e f =
    let at : j ≡ k = omega (arith, e) in
    let words : b ≡ c = omega (arith, f) in
    ap₂ (λ x y. Some (place_in (run_of r rs x) y)) at words
place_read r rs j b (n ∷ ns) (suc i) k c l e f =
    place_read r rs (j + 1) (b + n) ns i k c (omega (arith, l)) (omega (arith, e))
    (omega (arith, f, sum_by-cons (λ (x : ℕ). x) n (take i ns)))

-- runs are given their bases one after another

put_at : {X : Type 0} (f : X → X) (xs : List X) (i : ℕ) (d : X) → i < length xs
    → set (map f (take i xs) ++ drop i xs) i (f (get_or (map f (take i xs) ++ drop i xs) i d))
    ≡ map f (take (suc i) xs) ++ drop (suc i) xs
put_at f [] i d l = absurd (omega (arith, l))
put_at f (y ∷ xs) zero d l = refl
put_at f (y ∷ xs) (suc i) d l = ap (λ zs. f y ∷ zs) (put_at f xs i d (omega (arith, l)))

pub put_many : {X : Type 0} (f : X → X) (xs ys : List X) (i : ℕ) → ys ≡ map f (take i xs) ++ drop i xs
    → length ys ≡ length xs
put_many {X = X} f xs ys i e = ap length e ∙ whole xs i
  where
    whole : (xs : List X) (i : ℕ) → length (map f (take i xs) ++ drop i xs) ≡ length xs
    whole [] zero = refl
    whole [] (suc i) = refl
    whole (x ∷ xs) zero = refl
    whole (x ∷ xs) (suc i) = ap suc (whole xs i)

pub put_next : {X : Type 0} (f : X → X) (xs ys : List X) (i j : ℕ) (d v : X) → i < length xs → j ≡ i + 1
    → ys ≡ map f (take i xs) ++ drop i xs → v ≡ f (get_or ys i d) → set ys i v ≡ map f (take j xs) ++ drop j xs
put_next f xs ys i j d v l e so_far is =
    let at : suc i ≡ j = omega (arith, e) in
    ap (set ys i) is ∙ ap (λ zs. set zs i (f (get_or zs i d))) so_far ∙ put_at f xs i d l
    ∙ ap (λ k. map f (take k xs) ++ drop k xs) at

-- a base and a distance

base_is : (h o b d : ℕ) → b ≤ d → b < 2 ^ 32 → h + (o + (d - b)) < 2 ^ 64
    → ((h + o + (2 ^ 64 - b)) % 2 ^ 64 + d) % 2 ^ 64 ≡ h + (o + (d - b))
base_is h o b d low few fits = omega (arith, low, few, fits)

-- planned places

module _ (w : ℕ) (ts : List ℕ) where
  run_put : (r : Run) (rs : List Run) (i : ℕ)
      → base_of (run_base w ts r) (map (run_on w ts) rs) i ≡ run_base w ts (run_of r rs i)
  run_put r [] i = refl
  run_put r (q ∷ qs) i = by_test (nat_le q.first i) (λ x. run_put x qs i)
    where
      by_test : (t : Bool)
          → ((x : Run) → base_of (run_base w ts x) (map (run_on w ts) qs) i ≡ run_base w ts (run_of x qs i))
          → base_of (cond t (run_base w ts q) (run_base w ts r)) (map (run_on w ts) qs) i
          ≡ run_base w ts (run_of (cond t q r) qs i)
      by_test true rest = rest q
      by_test false rest = rest r

  module _ (ns : List ℕ) (r : Run) (rs : List Run) (none : r.before ≡ 0) (begun : AreBegun ns rs) where
    place_put : (i : ℕ) → address_in w ts (place_in (run_of r rs i) (words_before ns i)) < 2 ^ 64
        → based (run_base w ts (run_of r rs i)) (words_before ns i)
        ≡ address_in w ts (place_in (run_of r rs i) (words_before ns i))
    place_put i fits =
        let (low, few) = run_knows ns r rs i begun (omega (arith, none)) (omega (arith, none)) in
        let q = run_of r rs i in
        let sum : head_of w ts q.target + (q.offset + (words_before ns i - q.before)) < 2 ^ 64 = omega (arith, fits) in
        base_is (head_of w ts q.target) q.offset q.before (words_before ns i) low few sum

    -- the addresses of planned places are their distances from the bases of runs
    pub places_put : (ps : List (ℕ × ℕ)) → places_in r rs 0 0 ns ≡ ps → Each (map (address_in w ts) ps) IsAddress
        → addresses_from (run_base w ts r) (map (run_on w ts) rs) 0 (sums_of 0 ns) ≡ map (address_in w ts) ps
    places_put ps e addresses = same_lists v u
        (addresses_many (run_base w ts r) (map (run_on w ts) rs) 0 (sums_of 0 ns) ∙ sums_many 0 ns
        ∙ sym (length-map ps (address_in w ts) ∙ ap length (sym e) ∙ places_many r rs 0 0 ns))
        (λ i l. by_number i (omega (
          arith,
          l,
          addresses_many (run_base w ts r) (map (run_on w ts) rs) 0 (sums_of 0 ns),
          sums_many 0 ns,
        )))
      where
        v : List ℕ
        v = addresses_from (run_base w ts r) (map (run_on w ts) rs) 0 (sums_of 0 ns)

        u : List ℕ
        u = map (address_in w ts) ps

        by_number : (i : ℕ) → i < length ns → slice_get v i ≡ slice_get u i
        by_number i l =
            let place : slice_get ps i ≡ Some (place_in (run_of r rs i) (words_before ns i)) =
            ap (λ xs. slice_get xs i) (sym e)
            ∙ place_read r rs 0 0 ns i i (words_before ns i) l (omega arith) (omega arith) in
            let there : slice_get u i ≡ Some (address_in w ts (place_in (run_of r rs i) (words_before ns i))) =
            slice_get-map (address_in w ts) ps i ∙ ap (option_map (address_in w ts)) place in
            let is = addresses i _ there in
            address_read (run_base w ts r) (map (run_on w ts) rs) 0 (sums_of 0 ns) i i (words_before ns i)
            (sum_read 0 ns i (words_before ns i) l (omega arith)) (omega arith)
            ∙ ap (λ b. Some (based b (words_before ns i))) (run_put r rs i)
            ∙ ap Some (place_put i (omega (arith, is.below))) ∙ sym there

pub planned_are : (w : ℕ) (ts ns : List ℕ) (r : Run) (rs qs : List Run) (b : ℕ) (ds : List ℕ) (ps : List (ℕ × ℕ))
    → r.before ≡ 0 → AreBegun ns rs → places_in r rs 0 0 ns ≡ ps → Each (map (address_in w ts) ps) IsAddress
    → b ≡ run_base w ts r → qs ≡ map (run_on w ts) rs → ds ≡ sums_of 0 ns
    → addresses_from b qs 0 ds ≡ map (address_in w ts) ps
planned_are w ts ns r rs qs b ds ps none begun is each base runs sums =
    ap (λ x. addresses_from x qs 0 ds) base ∙ ap₂ (λ xs ys. addresses_from (run_base w ts r) xs 0 ys) runs sums
    ∙ places_put w ts ns r rs none begun ps is each

-- the last run

base_with : (b : ℕ) (rs : List Run) (q : Run) (j : ℕ) → q.first ≤ j → base_of b (rs ++ q ∷ []) j ≡ q.target
base_with b [] q j l = by_test (nat_le q.first j) refl
  where
    by_test : (t : Bool) → nat_le q.first j ≡ t → cond t q.target b ≡ q.target
    by_test true e = refl
    by_test false e = absurd (omega (arith, l, leb-false q.first j e))
base_with b (r ∷ rs) q j l = base_with (cond (nat_le r.first j) r.target b) rs q j l

base_before : (b : ℕ) (rs : List Run) (q : Run) (j : ℕ) → j < q.first → base_of b (rs ++ q ∷ []) j ≡ base_of b rs j
base_before b [] q j l = by_test (nat_le q.first j) refl
  where
    by_test : (t : Bool) → nat_le q.first j ≡ t → cond t q.target b ≡ b
    by_test true e = absurd (omega (arith, l, leb-true q.first j e))
    by_test false e = refl
base_before b (r ∷ rs) q j l = base_before (cond (nat_le r.first j) r.target b) rs q j l

pub none_last : (b : ℕ) (rs : List Run) (r : Run) → rs ≡ [] → r ≡ record { first = 0; before = 0; target = b; offset = 0 }
    → IsLastRun b rs r
none_last b [] r e is i l = ap (λ (q : Run). q.target) (sym is)
none_last b (q ∷ rs) r e is i l = absurd (cc)

pub some_last : (b : ℕ) (rs : List Run) (r : Run) (k : ℕ) → length rs ≡ suc k → slice_get rs k ≡ Some r
    → IsLastRun b rs r
some_last b [] r k e at i l = absurd (omega (arith, e))
some_last b (q ∷ []) r zero e at i l =
    let is : q ≡ r = same_Some q r at in
    ap (λ (x : Run). base_of b (x ∷ []) i) is ∙ base_with b [] r i l
some_last b (q ∷ []) r (suc k) e at i l = absurd (omega (arith, e))
some_last b (q ∷ p ∷ rs) r zero e at i l = absurd (omega (arith, e))
some_last b (q ∷ p ∷ rs) r (suc k) e at i l =
    some_last (cond (nat_le q.first i) q.target b) (p ∷ rs) r k (omega (arith, e)) at i l

-- an address is read

address_there : (b : ℕ) (rs : List Run) (ds : List ℕ) (i d : ℕ) → slice_get ds i ≡ Some d
    → get_or (addresses_from b rs 0 ds) i 0 ≡ based (base_of b rs i) d
address_there b rs ds i d e = get_or_from_slice_get (addresses_from b rs 0 ds) i (based (base_of b rs i) d) 0
    (address_read b rs 0 ds i i d e (omega arith))

is_address : (b : ℕ) (rs : List Run) (ds : List ℕ) (i d : ℕ) → Each (addresses_from b rs 0 ds) IsAddress
    → slice_get ds i ≡ Some d → IsAddress (based (base_of b rs i) d)
is_address b rs ds i d each e = each i _ (address_read b rs 0 ds i i d e (omega arith))

pub address_got : (b : ℕ) (rs : List Run) (ds : List ℕ) (all : List ℕ) (i c d : ℕ) → addresses_from b rs 0 ds ≡ all
    → Each (addresses_from b rs 0 ds) IsAddress → i < length all → c ≡ base_of b rs i
    → d ≡ get_or ds i d → ((c + d) % 2 ^ 64 ≡ get_or all i 0) × IsAddress ((c + d) % 2 ^ 64)
address_got b rs ds all i c d is each l base at =
    let low : i < length ds = omega (arith, l, ap length is, addresses_many b rs 0 ds) in
    let there : slice_get ds i ≡ Some d = slice_get-get_or ds i d low ∙ ap Some (sym at) in (
      ap (λ x. based x d) base ∙ sym (address_there b rs ds i d there) ∙ ap (λ xs. get_or xs i 0) is,
      subst (λ x. IsAddress (based x d)) (sym base) (is_address b rs ds i d each there),
    )

-- addresses that are listed

addresses_same : (b : ℕ) (rs : List Run) (q : Run) (j : ℕ) (ds : List ℕ) → j + length ds ≤ q.first
    → addresses_from b (rs ++ q ∷ []) j ds ≡ addresses_from b rs j ds
addresses_same b rs q j [] l = refl
addresses_same b rs q j (d ∷ ds) l =
    ap₂ (λ x xs. based x d ∷ xs) (base_before b rs q j (omega (arith, l)))
    (addresses_same b rs q (j + 1) ds (omega (arith, l)))

addresses_more : (b : ℕ) (rs : List Run) (j k : ℕ) (ds : List ℕ) (d : ℕ) → k ≡ j + length ds
    → addresses_from b rs j (ds ++ d ∷ []) ≡ addresses_from b rs j ds ++ based (base_of b rs k) d ∷ []
addresses_more b rs j k [] d e =
    let at : j ≡ k = omega (arith, e) in ap (λ x. based (base_of b rs x) d ∷ []) at
addresses_more b rs j k (x ∷ ds) d e =
    ap (λ xs. based (base_of b rs j) x ∷ xs) (addresses_more b rs (j + 1) k ds d (omega (arith, e)))

-- the first i of these addresses are listed
pub record AreListed (places : List ℕ) (i : ℕ) (ds : List ℕ) (rs : List Run) (last : Run) : Type 0 where
  pub so_far : addresses_from 0 rs 0 ds ≡ take i places
  pub addresses : Each (addresses_from 0 rs 0 ds) IsAddress
  pub many : length ds ≡ i
  pub base : (j : ℕ) → i ≤ j → base_of 0 rs j ≡ last.target

each_more : (xs : List ℕ) (x : ℕ) → Each xs IsAddress → IsAddress x → Each (xs ++ x ∷ []) IsAddress
each_more [] x h k zero y e = subst IsAddress (same_Some x y e) k
each_more [] x h k (suc i) y e = absurd (cc)
each_more (z ∷ xs) x h k zero y e = h zero y e
each_more (z ∷ xs) x h k (suc i) y e = each_more xs x (λ j. h (suc j)) k i y e

pub listed_next : (places : List ℕ) (i a low d : ℕ) (ds more : List ℕ) (rs qs : List Run) (last last2 r : Run)
    → AreListed places i ds rs last → i < length places → a ≡ get_or places i d → IsAddress a → low ≡ a % 2 ^ 32
    → r ≡ record { first = i; before = 0; target = a - low; offset = 0 } → more ≡ ds ++ low ∷ []
    → last2 ≡ last_with last r → qs ≡ runs_with rs last r → AreListed places (i + 1) more qs last2
listed_next places i a low d ds more rs qs last last2 r h l at few is run put f g =
    subst (λ x. AreListed places (i + 1) x qs last2) (sym put)
    (subst (λ x. AreListed places (i + 1) (ds ++ low ∷ []) qs x) (sym f)
    (subst (λ x. AreListed places (i + 1) (ds ++ low ∷ []) x (last_with last r)) (sym g)
    (by_test (last.target == r.target) refl)))
  where
    target : r.target ≡ a - low
    target = ap (λ (q : Run). q.target) run

    first : r.first ≡ i
    first = ap (λ (q : Run). q.first) run

    longer : length (ds ++ low ∷ []) ≡ i + 1
    longer = length-append ds (low ∷ []) ∙ omega (arith, h.many)

    whole : (b : ℕ) → b ≡ a - low → based b low ≡ a
    whole b e = omega (arith, e, few.below, is)

    listed : (xs : List Run) → addresses_from 0 xs 0 ds ≡ addresses_from 0 rs 0 ds → base_of 0 xs i ≡ a - low
        → addresses_from 0 xs 0 (ds ++ low ∷ []) ≡ addresses_from 0 rs 0 ds ++ a ∷ []
    listed xs same base =
        addresses_more 0 xs 0 i ds low (omega (arith, h.many))
        ∙ ap₂ (λ ys y. ys ++ y ∷ []) same (whole (base_of 0 xs i) base)

    so_far : addresses_from 0 rs 0 ds ++ a ∷ [] ≡ take (i + 1) places
    so_far = ap₂ (λ ys y. ys ++ y ∷ []) h.so_far at ∙ sym (take_more places i d l)

    each : Each (addresses_from 0 rs 0 ds ++ a ∷ []) IsAddress
    each = each_more (addresses_from 0 rs 0 ds) a h.addresses few

    by_test : (b : Bool) → (last.target == r.target) ≡ b
        → AreListed places (i + 1) (ds ++ low ∷ []) (cond b rs (rs ++ r ∷ [])) (cond b last r)
    by_test true e =
        let same : last.target ≡ r.target = grind (arith, nat_tests, e) in
        let all = listed rs refl (h.base i (omega arith) ∙ same ∙ target) in record {
          so_far = all ∙ so_far;
          addresses = subst (λ xs. Each xs IsAddress) (sym all) each;
          many = longer;
          base = λ j k. h.base j (omega (arith, k));
        }
    by_test false e =
        let all = listed (rs ++ r ∷ []) (addresses_same 0 rs r 0 ds (omega (arith, h.many, first)))
        (base_with 0 rs r i (omega (arith, first)) ∙ target) in record {
          so_far = all ∙ so_far;
          addresses = subst (λ xs. Each xs IsAddress) (sym all) each;
          many = longer;
          base = λ j k. base_with 0 rs r j (omega (arith, k, first));
        }

pub all_listed : (places : List ℕ) (i : ℕ) (ds : List ℕ) (rs : List Run) (last : Run) → AreListed places i ds rs last
    → length places ≤ i → addresses_from 0 rs 0 ds ≡ places
all_listed places i ds rs last h l = h.so_far ∙ take_all i places l
