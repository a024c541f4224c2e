-- The bits in words: their list, how many are set, and one that is flipped or written.
use Rattle.std.proofs.Common.{◌≡◌, ℕ, suc, zero, ◌+◌, ◌-◌, ◌*◌, ◌/◌, ◌%◌, ◌^◌, ◌<◌, ◌≤◌, Bool, true, false, not}
use Rattle.std.proofs.Common.{cond, eqb, List, length, replicate, take, get_or, set, refl, sym, ◌∙◌, ap, inl, inr}
use Rattle.std.proofs.Common.{arith, ext_get_or, length-set, get_or-set_same, get_or-set_other, eq-eqb, ne_eqb}
use Rattle.std.proofs.lemmas.List.{length-replicate, get_or-replicate, get_or_past}
use Rattle.std.proofs.lemmas.List.Sums.{sum_by-set, count_by-le-length, get_or-le-sum_by}
use Rattle.std.proofs.lemmas.List.FromFn.{length-map-range_with_len, get_or-map-range_with_len}
use Rattle.std.proofs.lemmas.List.FromFn.{take-map-range_with_len}
use Rattle.std.proofs.lemmas.Bool.{cases_eq, cases_lt}
use Rattle.std.proofs.lemmas.Nat.{one_shl}
use Rattle.std.proofs.lemmas.Nat.Bits.{bit_at-zero, bit_at-lt, bit_at_xor, bit_at-pow_same}
use Rattle.std.proofs.lemmas.Nat.Bits.{bit_at-pow_other}
use Rattle.std.specs.Prelude.{bit_xor, count_by}
use Rattle.std.specs.Int.{bit_at, div_ceil}
use Rattle.markbits.specs.Words.{bit_of, bits_of, set_count, IsRow}

pub length-bits_of : (n : ℕ) (words : List ℕ) → length (bits_of n words) ≡ n
unfolding bits_of
length-bits_of n words = length-map-range_with_len (bit_of words) 0 n

pub get_or-bits_of : (n : ℕ) (words : List ℕ) (k : ℕ) → k < n → get_or (bits_of n words) k false ≡ bit_of words k
unfolding bits_of
get_or-bits_of n words k h = get_or-map-range_with_len (bit_of words) 0 n k k false h (omega arith)

pub take-bits_of : (n : ℕ) (words : List ℕ) (k : ℕ) → k ≤ n → take k (bits_of n words) ≡ bits_of k words
unfolding bits_of
take-bits_of n words k h = take-map-range_with_len (bit_of words) 0 n k h

-- two rows with the same bits
pub same_bits : (n : ℕ) (words : List ℕ) (row : List Bool) → length row ≡ n → ((k : ℕ) → k < n
    → bit_of words k ≡ get_or row k false) → bits_of n words ≡ row
same_bits n words row len each =
    ext_get_or false _ _ (length-bits_of n words ∙ sym len)
    (λ k h. let within : k < n = rw length-bits_of at h in get_or-bits_of n words k within ∙ each k within)

pub bit_of_past : (words : List ℕ) (i : ℕ) → 64 * length words ≤ i → bit_of words i ≡ false
bit_of_past words i h =
    ap (λ x. eqb (bit_at x (i % 64)) 1) (get_or_past words (i / 64) 0 (omega arith))
    ∙ ap (λ x. eqb x 1) (bit_at-zero (i % 64))

pub bit_of_zeros : (m i : ℕ) → bit_of (replicate m 0) i ≡ false
bit_of_zeros m i =
    elim (cases_lt (i / 64) m) [
      | inl within ↦
          ap (λ x. eqb (bit_at x (i % 64)) 1) (get_or-replicate m (i / 64) 0 0 within)
          ∙ ap (λ x. eqb x 1) (bit_at-zero (i % 64))
      | inr past ↦ bit_of_past (replicate m 0) i (omega (arith, length-replicate {A = ℕ} m 0))
    ]

pub bits_of_zeros : (n m : ℕ) → bits_of n (replicate m 0) ≡ replicate n false
bits_of_zeros n m =
    same_bits n (replicate m 0) (replicate n false) (length-replicate n false)
    (λ k h. bit_of_zeros m k ∙ sym (get_or-replicate n k false false h))

-- counts

abbrev pub one : Bool → ℕ
one b = cond b 1 0

pub set_count_zeros : (n : ℕ) → set_count (replicate n false) ≡ 0
unfolding set_count
set_count_zeros zero = refl
set_count_zeros (suc n) = set_count_zeros n

pub set_count_le : (n : ℕ) (words : List ℕ) → set_count (bits_of n words) ≤ n
unfolding set_count
set_count_le n words = omega (arith, count_by-le-length (λ b. b) (bits_of n words), length-bits_of n words)

pub not_one : (b : Bool) → cond b 1 0 ≤ 0 → b ≡ false
not_one true h = absurd (omega arith)
not_one false h = refl

pub blank_from_count : (row : List Bool) → set_count row ≡ 0 → row ≡ replicate (length row) false
unfolding set_count
blank_from_count row none =
    ext_get_or false _ _ (sym (length-replicate (length row) false))
    (λ k h.
    not_one (get_or row k false) (omega (arith, get_or-le-sum_by one row k false h))
    ∙ sym (get_or-replicate (length row) k false false h))

pub blank_row_is : (n m : ℕ) → n < 2 ^ 32 → m ≡ div_ceil n 64 → IsRow (replicate m 0) n 0
blank_row_is n m short e = record {
  short = short;
  room = length-replicate m 0 ∙ e;
  rest = λ i _. bit_of_zeros m i;
  counted = sym (ap set_count (bits_of_zeros n m) ∙ set_count_zeros n);
}

pub count_of : {total : ℕ} {row bits : List Bool} → total ≡ set_count bits → bits ≡ row → total ≡ count_by (λ b. b) row
unfolding set_count
count_of counted view = counted ∙ ap set_count view

-- one bit

-- any bit of a row, also past its end
pub get_or-row : (n total : ℕ) (words : List ℕ) → IsRow words n total → (k : ℕ)
    → get_or (bits_of n words) k false ≡ bit_of words k
get_or-row n total words row k =
    elim (cases_lt k n) [
      | inl within ↦ get_or-bits_of n words k within
      | inr past ↦ get_or_past (bits_of n words) k false (omega (arith, length-bits_of n words)) ∙ sym (row.rest k past)
    ]

-- a bit that is flipped

pub flip_same : (w k : ℕ) → k < 64 → eqb (bit_at (bit_xor w (1 * 2 ^ k % 2 ^ 64)) k) 1 ≡ not (eqb (bit_at w k) 1)
flip_same w k h =
    let e : bit_at (bit_xor w (1 * 2 ^ k % 2 ^ 64)) k ≡ (bit_at w k + bit_at (2 ^ k) k) % 2 =
    ap (λ m. bit_at (bit_xor w m) k) (one_shl k 64 h) ∙ bit_at_xor w (2 ^ k) k in
    let b : ℕ = bit_at w k in
    elim (cases_eq b 1) [
      | inl set ↦ ne_eqb _ 1 (omega (arith, bit_at-pow_same k)) ∙ sym (ap not (eq-eqb b 1 set))
      | inr clear ↦ eq-eqb _ 1 (omega (arith, bit_at-pow_same k, bit_at-lt w k)) ∙ sym (ap not (ne_eqb b 1 clear))
    ]

pub flip_other : (w k j : ℕ) → k < 64 → (j ≡ k → ⊥) → bit_at (bit_xor w (1 * 2 ^ k % 2 ^ 64)) j ≡ bit_at w j
flip_other w k j h other =
    let e : bit_at (bit_xor w (1 * 2 ^ k % 2 ^ 64)) j ≡ (bit_at w j + bit_at (2 ^ k) j) % 2 =
    ap (λ m. bit_at (bit_xor w m) j) (one_shl k 64 h) ∙ bit_at_xor w (2 ^ k) j in
    omega (arith, bit_at-pow_other k j other, bit_at-lt w j)

-- the words with bit k flipped
abbrev pub flipped : List ℕ → ℕ → List ℕ
flipped words k = set words (k / 64) (bit_xor (get_or words (k / 64) 0) (1 * 2 ^ (k % 64) % 2 ^ 64))

pub bit_of-flipped_same : (words : List ℕ) (k : ℕ) → k < 64 * length words
    → bit_of (flipped words k) k ≡ not (bit_of words k)
bit_of-flipped_same words k within =
    ap (λ x. eqb (bit_at x (k % 64)) 1) (get_or-set_same words (k / 64) _ 0 (omega arith))
    ∙ flip_same (get_or words (k / 64) 0) (k % 64) (omega arith)

pub bit_of-flipped_other : (words : List ℕ) (k i : ℕ) → k < 64 * length words → (i ≡ k → ⊥)
    → bit_of (flipped words k) i ≡ bit_of words i
bit_of-flipped_other words k i within other =
    elim (cases_eq (i / 64) (k / 64)) as (λ _. bit_of (flipped words k) i ≡ bit_of words i) [
      | inl word ↦
          ap (λ x. eqb (bit_at (get_or (flipped words k) x 0) (i % 64)) 1) word
          ∙ ap (λ x. eqb (bit_at x (i % 64)) 1) (get_or-set_same words (k / 64) _ 0 (omega arith))
          ∙ ap (λ x. eqb x 1) (flip_other (get_or words (k / 64) 0) (k % 64) (i % 64) (omega arith) (omega arith))
          ∙ ap (λ x. eqb (bit_at (get_or words x 0) (i % 64)) 1) (sym word)
      | inr apart ↦ ap (λ x. eqb (bit_at x (i % 64)) 1) (get_or-set_other words (k / 64) (i / 64) _ 0 apart)
    ]

-- what the words after a write of a bit k that was not `bit` are
pub record Put (words after : List ℕ) (n total k : ℕ) (bit : Bool) : Type 0 where
  pub is : bits_of n after ≡ set (bits_of n words) k bit
  pub more : bit ≡ true → (total + 1 ≤ n) × IsRow after n (total + 1)
  pub less : bit ≡ false → (1 ≤ total) × IsRow after n (total - 1)

pub not_other : (a b : Bool) → (a ≡ b → ⊥) → not a ≡ b
not_other true true h = absurd (h refl)
not_other true false h = refl
not_other false true h = refl
not_other false false h = absurd (h refl)

pub other_of : (a b : Bool) → not a ≡ b → a ≡ not b
other_of true b h = ap not h
other_of false b h = ap not h

pub put_flipped : (words : List ℕ) (n total k : ℕ) (bit : Bool) → IsRow words n total → k < n
    → (get_or (bits_of n words) k false ≡ bit → ⊥)
    → Put words (flipped words k) n total k bit
unfolding set_count
put_flipped words n total k bit row within other =
    let room : k < 64 * length words = omega (arith, row.room) in
    let old : not (bit_of words k) ≡ bit = not_other _ _ (λ e. other (get_or-bits_of n words k within ∙ e)) in
    let len : length (bits_of n words) ≡ n = length-bits_of n words in
    let is : bits_of n (flipped words k) ≡ set (bits_of n words) k bit =
    same_bits n (flipped words k) (set (bits_of n words) k bit) (length-set (bits_of n words) k bit ∙ len)
    (λ i h.
    elim (cases_eq i k) as (λ _. bit_of (flipped words k) i ≡ get_or (set (bits_of n words) k bit) i false) [
      | inl same ↦
          rw same
          (bit_of-flipped_same words k room ∙ old ∙ sym (get_or-set_same (bits_of n words) k bit false (omega arith)))
      | inr apart ↦
          bit_of-flipped_other words k i room apart
          ∙ sym (get_or-bits_of n words i h) ∙ sym (get_or-set_other (bits_of n words) k i bit false apart)
    ]) in
    let rest : (i : ℕ) → n ≤ i → bit_of (flipped words k) i ≡ false =
    λ i h. bit_of-flipped_other words k i room (omega arith) ∙ row.rest i h in
    let was : one (get_or (bits_of n words) k false) ≡ one (not bit) =
    ap one (get_or-bits_of n words k within ∙ other_of _ _ old) in
    let counts : set_count (set (bits_of n words) k bit) + one (get_or (bits_of n words) k false) ≡ set_count
    (bits_of n words) + one bit =
    sum_by-set one (bits_of n words) k bit false (omega arith) in
    let now : set_count (bits_of n (flipped words k)) + one (not bit) ≡ total + one bit =
    let e : set_count (bits_of n (flipped words k)) ≡ set_count (set (bits_of n words) k bit) =
    ap set_count is in omega (arith, row.counted) in
    let most : set_count (bits_of n (flipped words k)) ≤ n = set_count_le n (flipped words k) in
    let long : length (flipped words k) ≡ div_ceil n 64 = length-set words _ _ ∙ row.room in
    record {
      is = is;
      more = λ e. let a : one bit ≡ 1 = ap one e in let z : one (not bit) ≡ 0 =
          ap (λ b. one (not b)) e in (
            omega arith,
            record {
              short = row.short;
              room = long;
              rest = rest;
              counted =
                  omega arith;
            },
          );
      less = λ e. let a : one bit ≡ 0 = ap one e in let z : one (not bit) ≡ 1 =
          ap (λ b. one (not b)) e in (
            omega arith,
            record {
              short = row.short;
              room = long;
              rest = rest;
              counted =
                  omega arith;
            },
          );
    }

-- the same, where the word that was read is `word`
pub put_read : (words : List ℕ) (n total k word : ℕ) (bit : Bool) → IsRow words n total → k < n
    → (get_or (bits_of n words) k false ≡ bit → ⊥)
    → word ≡ get_or words (k / 64) 0
    → Put words (set words (k / 64) (bit_xor word (1 * 2 ^ (k % 64) % 2 ^ 64))) n total k bit
put_read words n total k word bit row within other read = rw read (put_flipped words n total k bit row within other)
