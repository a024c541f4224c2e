-- Sizes as differences of the words before objects.
use Rattle.std.proofs.Common.{◌≡◌, ℕ, zero, suc, ◌+◌, ◌-◌, ◌<◌, ◌≤◌, ◌^◌, List, [], ◌∷◌, ◌++◌, length, take, get_or}
use Rattle.std.proofs.Common.{Some, refl, sym, ◌∙◌, ap, ap₂, subst, arith, length-append}
use Rattle.std.specs.List.{slice_get}
use Rattle.std.proofs.lemmas.Option.{same_Some}
use Rattle.std.proofs.lemmas.List.Sums.{sum_by-cons}
use Rattle.model.specs.declared.limits.TheConstants.{MOST_WORDS}
use Rattle.forward.specs.Sizes.{next_or, sizes_of, sums_of, AreSums, AreSizes, words_before}

-- there is a size for each object
pub sizes_many : (bs : List ℕ) (t : ℕ) → length (sizes_of bs t) ≡ length bs
sizes_many [] t = refl
sizes_many (b ∷ bs) t = ap suc (sizes_many bs t)

-- one object more
next_more : (bs : List ℕ) (t u : ℕ) → next_or (bs ++ t ∷ []) u ≡ next_or bs t
next_more [] t u = refl
next_more (b ∷ bs) t u = refl

pub sizes_more : (bs : List ℕ) (t n : ℕ) → sizes_of (bs ++ t ∷ []) (t + n) ≡ sizes_of bs t ++ n ∷ []
sizes_more [] t n = let is : t + n - t ≡ n = omega arith in ap (λ m. m ∷ []) is
sizes_more (b ∷ bs) t n = ap₂ (λ m ms. (m - b) ∷ ms) (next_more bs t (t + n)) (sizes_more bs t n)

sums_more : (bs : List ℕ) (t n : ℕ) → AreSums bs t → AreSums (bs ++ t ∷ []) (t + n)
sums_more [] t n h = (omega arith, tt)
sums_more (b ∷ bs) t n (l, h) = (omega (arith, l, next_more bs t (t + n)), sums_more bs t n h)

pub are_sizes : (bs cs : List ℕ) (t n : ℕ) → AreSizes bs t → cs ≡ bs ++ t ∷ [] → length bs < MOST_WORDS → n < 2 ^ 17
    → AreSizes cs (t + n)
are_sizes bs cs t n is e few low = again (sym e)
  where
    ds : List ℕ
    ds = bs ++ t ∷ []

    longer : length ds ≡ length bs + 1
    longer = length-append bs (t ∷ [])

    first : next_or ds (t + n) ≡ 0
    first = next_more bs t (t + n) ∙ is.first

    all : AreSizes ds (t + n)
    all = record {
      first = first;
      sums = sums_more bs t n is.sums;
      short = omega (arith, longer, few);
      few = omega (arith, longer, is.few, low);
    }

    again : ds ≡ cs → AreSizes cs (t + n)
    again k = subst (λ xs. AreSizes xs (t + n)) k all

-- the words before an object
before_all : (n k : ℕ) (ns : List ℕ) → words_before (n ∷ ns) (suc k) ≡ n + words_before ns k
before_all n k ns = sum_by-cons (λ (m : ℕ). m) n (take k ns)

pub read_before : (bs : List ℕ) (t i : ℕ) → AreSums bs t → i ≤ length bs
    → get_or bs i t ≡ next_or bs t + words_before (sizes_of bs t) i
read_before [] t zero h l = omega arith
read_before [] t (suc i) h l = absurd (omega (arith, l))
read_before (b ∷ bs) t zero h l = omega arith
read_before (b ∷ bs) t (suc i) (low, h) l =
    omega (arith, read_before bs t i h (omega (arith, l)), before_all (next_or bs t - b) i (sizes_of bs t), low)

-- a size is the difference of two
pub size_read : (ns : List ℕ) (i : ℕ) → i < length ns
    → slice_get ns i ≡ Some (words_before ns (suc i) - words_before ns i)
size_read [] i l = absurd (omega (arith, l))
size_read (n ∷ ns) zero l =
    let is : n ≡ words_before (n ∷ ns) 1 - 0 = omega (arith, before_all n zero ns) in ap Some is
size_read (n ∷ ns) (suc i) l =
    let is : words_before ns (suc i) - words_before ns i
    ≡ words_before (n ∷ ns) (suc (suc i)) - words_before (n ∷ ns) (suc i) =
    omega (arith, before_all n (suc i) ns, before_all n i ns) in
    size_read ns i (omega (arith, l)) ∙ ap Some is

-- the words before objects rise
pub before_more : (ns : List ℕ) (i n : ℕ) → slice_get ns i ≡ Some n
    → words_before ns (suc i) ≡ words_before ns i + n
before_more [] i n e = absurd (cc)
before_more (m ∷ ns) zero n e = omega (arith, before_all m zero ns, same_Some m n e)
before_more (m ∷ ns) (suc i) n e =
    omega (arith, before_all m (suc i) ns, before_all m i ns, before_more ns i n e)

-- the words before an object are read, and those of all
module _ (bs : List ℕ) (t : ℕ) (is : AreSizes bs t) (i : ℕ) (l : i ≤ length (sizes_of bs t)) where
  before_there : get_or bs i t ≡ words_before (sizes_of bs t) i
  before_there = omega (arith, read_before bs t i is.sums (omega (arith, l, sizes_many bs t)), is.first)

  pub before_some : (b : ℕ) → i < length bs → get_or bs i t ≡ b → b ≡ words_before (sizes_of bs t) i
  before_some b low e = sym e ∙ before_there

  pub before_none : length bs ≤ i → t ≡ words_before (sizes_of bs t) i
  before_none past = sym (default bs i past) ∙ before_there
    where
      default : (bs : List ℕ) (i : ℕ) → length bs ≤ i → get_or bs i t ≡ t
      default [] i k = refl
      default (b ∷ bs) zero k = absurd (omega (arith, k))
      default (b ∷ bs) (suc i) k = default bs i (omega (arith, k))

pub size_is : (ns : List ℕ) (i j a b : ℕ) → j ≡ i + 1 → i < length ns → a ≡ words_before ns j → b ≡ words_before ns i
    → slice_get ns i ≡ Some (a - b)
size_is ns i j a b e l p q =
    let at : j ≡ suc i = omega (arith, e) in
    let same : words_before ns j ≡ words_before ns (suc i) = ap (words_before ns) at in
    let is : words_before ns (suc i) - words_before ns i ≡ a - b = omega (arith, p, q, same) in
    size_read ns i l ∙ ap Some is

-- words before rise
pub before_grows : (ns : List ℕ) (i j : ℕ) → i ≤ j → words_before ns i ≤ words_before ns j
before_grows [] zero j l = omega arith
before_grows [] (suc i) zero l = absurd (omega (arith, l))
before_grows [] (suc i) (suc j) l = omega arith
before_grows (n ∷ ns) zero j l = omega arith
before_grows (n ∷ ns) (suc i) zero l = absurd (omega (arith, l))
before_grows (n ∷ ns) (suc i) (suc j) l =
    omega (arith, before_all n i ns, before_all n j ns, before_grows ns i j (omega (arith, l)))

-- the words before each of them are kept
pub sums_kept : (bs : List ℕ) (t b : ℕ) → AreSums bs t → next_or bs t ≡ b → bs ≡ sums_of b (sizes_of bs t)
sums_kept [] t b h e = refl
sums_kept (x ∷ bs) t b (low, h) e =
    let next : next_or bs t ≡ b + (next_or bs t - x) = omega (arith, e, low) in
    ap₂ (λ y ys. y ∷ ys) e (sums_kept bs t (b + (next_or bs t - x)) h next)
