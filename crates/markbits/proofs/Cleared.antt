-- Bitmaps that are cleared at once.
use Rattle.std.proofs.Common.{◌≡◌, inl, inr, ℕ, zero, suc, ◌+◌, ◌-◌, ◌≤◌, ◌<◌, Bool, false, List, [], ◌∷◌}
use Rattle.std.proofs.Common.{◌++◌, length, replicate, take, set, get_or, count_by, Option, Some, None, refl, sym, ◌∙◌, ap}
use Rattle.std.proofs.Common.{cond, arith}
use Rattle.std.proofs.lemmas.List.{length-replicate, length-append, append-nil}
use Rattle.std.proofs.lemmas.List.Sums.{sum_by-append, sum_by-cons}
use Rattle.std.proofs.Math.ListN.{length-set}
use Rattle.sequences.specs.Bits.{blank_row}
use Rattle.markbits.specs.Cleared.{padded, AreThere}
use Rattle.markbits.specs.Ranks.{rank_of}
use Rattle.markbits.specs.Words.{set_count, IsNextPlace}
use Rattle.markbits.proofs.RowBits.{blank_from_count}

-- ---- clear bits after others

get_clear : (k i : ℕ) → get_or (replicate k false) i false ≡ false
get_clear zero i = refl
get_clear (suc k) zero = refl
get_clear (suc k) (suc i) = get_clear k i

get_more : (bits : List Bool) (k i : ℕ) → get_or bits i false ≡ get_or (bits ++ replicate k false) i false
get_more [] k i = sym (get_clear k i)
get_more (b ∷ bs) k zero = refl
get_more (b ∷ bs) k (suc i) = get_more bs k i

count_clear : (k i : ℕ) → count_by (λ b. b) (take i (replicate k false)) ≡ 0
count_clear zero zero = refl
count_clear zero (suc i) = refl
count_clear (suc k) zero = refl
count_clear (suc k) (suc i) = count_clear k i

all_clear : (k : ℕ) → count_by (λ b. b) (replicate k false) ≡ 0
all_clear zero = refl
all_clear (suc k) = all_clear k

abbrev one : Bool → ℕ
one b = cond b 1 0

count_more : (bits : List Bool) (k : ℕ) → count_by (λ b. b) bits ≡ count_by (λ b. b) (bits ++ replicate k false)
count_more bits k =
    sym (sum_by-append one bits (replicate k false) ∙ ap (λ n. count_by (λ b. b) bits + n) (all_clear k) ∙ omega arith)

rank_more : (bits : List Bool) (k i : ℕ) → rank_of bits i ≡ rank_of (bits ++ replicate k false) i
rank_more [] k zero = refl
rank_more [] k (suc i) = sym (count_clear k (suc i))
rank_more (b ∷ bs) k zero = refl
rank_more (b ∷ bs) k (suc i) =
    sum_by-cons one b (take i bs) ∙ ap (λ n. one b + n) (rank_more bs k i)
    ∙ sym (sum_by-cons one b (take i (bs ++ replicate k false)))

set_more : (bits : List Bool) (k o : ℕ) (b : Bool) → o < length bits
    → set bits o b ++ replicate k false ≡ set (bits ++ replicate k false) o b
set_more [] k o b low = absurd (omega (arith, low))
set_more (x ∷ xs) k zero b low = refl
set_more (x ∷ xs) k (suc o) b low = ap (λ ys. x ∷ ys) (set_more xs k o b (omega (arith, low)))

set_clear : (k o : ℕ) → replicate k false ≡ set (replicate k false) o false
set_clear zero o = refl
set_clear (suc k) zero = refl
set_clear (suc k) (suc o) = ap (λ ys. false ∷ ys) (set_clear k o)

unset_more : (bits : List Bool) (k o : ℕ)
    → set bits o false ++ replicate k false ≡ set (bits ++ replicate k false) o false
unset_more [] k o = set_clear k o
unset_more (x ∷ xs) k zero = refl
unset_more (x ∷ xs) k (suc o) = ap (λ ys. x ∷ ys) (unset_more xs k o)

-- ---- a row

pub get_padded : (n : ℕ) (bits : List Bool) (i : ℕ) → get_or bits i false ≡ get_or (padded n bits) i false
get_padded n bits i = get_more bits (n - length bits) i

pub count_padded : (n : ℕ) (bits : List Bool) → count_by (λ b. b) bits ≡ count_by (λ b. b) (padded n bits)
count_padded n bits = count_more bits (n - length bits)

pub rank_padded : (n : ℕ) (bits : List Bool) (i : ℕ) → rank_of bits i ≡ rank_of (padded n bits) i
rank_padded n bits i = rank_more bits (n - length bits) i

pub next_padded : (n : ℕ) (bits : List Bool) (i : ℕ) (result : Option ℕ) → IsNextPlace bits i result
    → IsNextPlace (padded n bits) i result
next_padded n bits i None next = λ j from. sym (get_padded n bits j) ∙ next j from
next_padded n bits i (Some k) next = record {
  low = next.low;
  here = sym (get_padded n bits k) ∙ next.here;
  before = λ j from below. sym (get_padded n bits j) ∙ next.before j from below;
}

few : (n : ℕ) (bits spare : List Bool) → AreThere n bits spare → length bits ≤ n
few n bits spare (inl is) = omega (arith, is.0)
few n bits spare (inr is) = let none : length bits ≡ 0 = ap length is.0 in omega (arith, none)

length_of : (n : ℕ) (bits : List Bool) → length bits ≤ n → length (padded n bits) ≡ n
length_of n bits low =
    let many = length-replicate (n - length bits) false in
    length-append bits (replicate (n - length bits) false) ∙ omega (arith, many, low)

pub length_padded : (n : ℕ) (bits spare row : List Bool) → AreThere n bits spare → padded n bits ≡ row → n ≡ length row
length_padded n bits spare row is view = sym (length_of n bits (few n bits spare is)) ∙ ap length view

pub whole : (n : ℕ) (bits : List Bool) → length bits ≡ n → padded n bits ≡ bits
whole n bits e =
    let none : n - length bits ≡ 0 = omega (arith, e) in
    ap (λ k. bits ++ replicate k false) none ∙ append-nil bits

-- where bits are missing, none is there
pub none_there : (n o : ℕ) (bits spare : List Bool) → AreThere n bits spare → length bits ≤ o → o < n
    → (bits ≡ []) × (length spare ≡ n)
none_there n o bits spare (inl is) high low = absurd (omega (arith, is.0, high, low))
none_there n o bits spare (inr is) high low = (is.0, is.1 (omega (arith, low)))

pub all_there : (n : ℕ) (bits spare : List Bool) → AreThere n bits spare → 0 < count_by (λ b. b) bits
    → (length bits ≡ n) × (spare ≡ [])
all_there n bits spare (inl is) some = is
all_there n bits spare (inr is) some =
    let none : count_by (λ b. b) bits ≡ 0 = ap (count_by (λ b. b)) is.0 in absurd (omega (arith, none, some))

-- a bit is set or cleared
pub put_there : (n o : ℕ) (bits : List Bool) (b : Bool) → o < length bits
    → padded n (set bits o b) ≡ set (padded n bits) o b
put_there n o bits b low =
    ap (λ k. set bits o b ++ replicate (n - k) false) (length-set bits o b)
    ∙ set_more bits (n - length bits) o b low

pub unset_there : (n o : ℕ) (bits : List Bool) → padded n (set bits o false) ≡ set (padded n bits) o false
unset_there n o bits =
    ap (λ k. set bits o false ++ replicate (n - k) false) (length-set bits o false)
    ∙ unset_more bits (n - length bits) o

pub still_there : (n o : ℕ) (bits spare : List Bool) (b : Bool) → AreThere n bits spare
    → AreThere n (set bits o b) spare
still_there n o bits spare b (inl is) = inl (length-set bits o b ∙ is.0, is.1)
still_there n o bits spare b (inr is) = inr (ap (λ xs. set xs o b) is.0, is.1)

-- all bits are cleared
pub blank_there : (n : ℕ) (bits spare row : List Bool) → AreThere n bits spare → padded n bits ≡ row
    → count_by (λ b. b) bits ≡ 0 → row ≡ blank_row row
unfolding set_count
blank_there n bits spare row is view none =
    blank_from_count row (ap (count_by (λ b. b)) (sym view) ∙ sym (count_padded n bits) ∙ none)

-- two bitmaps without a set bit
pub none_same : (one other : List Bool) → length one ≡ length other → count_by (λ b. b) one ≡ 0
    → count_by (λ b. b) other ≡ 0 → one ≡ other
unfolding set_count
none_same one other long none no_other =
    blank_from_count one none ∙ ap (λ k. replicate k false) long ∙ sym (blank_from_count other no_other)
