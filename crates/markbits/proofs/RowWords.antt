-- Bitmaps as words: the next bit, the rank, and the results of a bitmap's functions.
use Rattle.std.proofs.Common.{◌≡◌, ℕ, suc, zero, ◌+◌, ◌-◌, ◌*◌, ◌/◌, ◌%◌, ◌^◌, ◌<◌, ◌≤◌, min, Bool, true, false, not}
use Rattle.std.proofs.Common.{eqb, List, length, replicate, take, get_or, set, refl, sym, ◌∙◌, ap, subst, inl, inr}
use Rattle.std.proofs.Common.{arith, eq-eqb, ne_eqb, w64}
use Rattle.std.proofs.Common.{true≢false}
use Rattle.std.proofs.lemmas.List.{length-replicate, get_or-replicate, get_or_past, get_or_read, set_past}
use Rattle.std.proofs.lemmas.List.{set-get_or, take_all}
use Rattle.std.proofs.lemmas.List.FromFn.{sum_by-map-range_with_len_more}
use Rattle.std.proofs.lemmas.Bool.{cases_lt}
use Rattle.std.proofs.lemmas.Nat.{one_shl, and_mask, and_le_r, mod-pow-add, mod_below, pow_pos, ones_cat}
use Rattle.std.proofs.lemmas.Nat.Bits.{shr_and_one, bit_at-zero, bit_at-lt, bit_at_and}
use Rattle.std.proofs.lemmas.Nat.Bits.{ones_shl, bit_at_mask_inside, bit_at_mask_below}
use Rattle.std.proofs.lemmas.Nat.Bits.{bit_at_ones, bit_at-trailing_zeros}
use mathlib.Core.Bool.{beq}
use Rattle.std.specs.Prelude.{bit_and, bit_xor, count_ones, count_by}
use Rattle.std.specs.Int.{bit_at, trailing_zeros}
use Rattle.std.specs.Int.Count.{count_trailing_zeros}
use Rattle.markbits.specs.Words.{bit_of, bits_of, set_count, IsRow, IsFirstFrom}
use Rattle.markbits.proofs.RowBits.{Put}
use Rattle.markbits.proofs.RowBits.{length-bits_of, take-bits_of, bit_of_past, bits_of_zeros, one, set_count_le}
use Rattle.markbits.proofs.RowBits.{blank_from_count, count_of, get_or-row, put_read}

-- the next bit that is set

-- no bit is set from place i up to place j
abbrev pub ClearFrom : List ℕ → ℕ → ℕ → Type 0
ClearFrom words i j = (k : ℕ) → i ≤ k → k < j → bit_of words k ≡ false

-- the mask for word k leaves out the places below i
pub record Masks (mask i k : ℕ) : Type 0 where
  pub low : (b : ℕ) → b < 64 → 64 * k + b < i → bit_at mask b ≡ 0
  pub high : (b : ℕ) → b < 64 → i ≤ 64 * k + b → bit_at mask b ≡ 1

pub masks_first : (i : ℕ) → Masks ((2 ^ 64 - 1) * 2 ^ (i % 64) % 2 ^ 64) i (i / 64)
masks_first i =
    let e : (2 ^ 64 - 1) * 2 ^ (i % 64) % 2 ^ 64 ≡ 2 ^ 64 - 2 ^ (i % 64) = ones_shl 64 (i % 64) (omega arith) in
    record {
      low = λ b h below. ap (λ m. bit_at m b) e ∙ bit_at_mask_below (i % 64) 64 b (omega arith);
      high = λ b h above. ap (λ m. bit_at m b) e ∙ bit_at_mask_inside (i % 64) 64 b (omega arith) h;
    }

pub masks_rest : (i k : ℕ) → i ≤ 64 * k → Masks (2 ^ 64 - 1) i k
masks_rest i k h = record {
  low = λ b small below. absurd (omega arith);
  high = λ b small above. bit_at_ones 64 b small;
}

pub record Found (words : List ℕ) (n i k : ℕ) : Type 0 where
  pub within : k < n
  pub first : IsFirstFrom (bits_of n words) i k

pub found : (words : List ℕ) (n total i k word mask : ℕ) → IsRow words n total → Masks mask i k
    → word ≡ get_or words k 0 → mask < 2 ^ 64
    → 0 < bit_and word mask → ClearFrom words i (64 * k)
    → Found words n i (k * 64 + trailing_zeros w64 (bit_and word mask))
found words n total i k word mask row masks read small some clear =
    let w : ℕ = bit_and word mask in
    let lowest = bit_at-trailing_zeros w64 w some (omega (arith, and_le_r word mask)) in
    let b : ℕ = trailing_zeros w64 w in
    let b_in : b < 64 = lowest.0 in
    let both : bit_at w b ≡ min (bit_at word b) (bit_at mask b) = bit_at_and word mask b in
    let low : i ≤ k * 64 + b =
    elim (cases_lt (64 * k + b) i) [
      | inl below ↦ absurd (omega (arith, masks.low b b_in below, lowest.1))
      | inr above ↦ omega arith
    ] in
    let at : (j : ℕ) → j < 64 → bit_of words (k * 64 + j) ≡ eqb (bit_at word j) 1 =
    λ j h. let q : (k * 64 + j) / 64 ≡ k = omega arith in let r : (k * 64 + j) % 64 ≡ j = omega arith in
    ap (λ x. eqb (bit_at (get_or words x 0) ((k * 64 + j) % 64)) 1) q
    ∙ ap (λ x. eqb (bit_at (get_or words k 0) x) 1) r ∙ ap (λ x. eqb (bit_at x j) 1) (sym read) in
    let here : bit_of words (k * 64 + b) ≡ true = at b b_in ∙ eq-eqb _ 1 (omega (arith, lowest.1, bit_at-lt word b)) in
    let within : k * 64 + b < n =
    elim (cases_lt (k * 64 + b) n) [
      | inl h ↦ h
      | inr past ↦ absurd (true≢false (sym here ∙ row.rest (k * 64 + b) past))
    ] in
    record {
      within = within;
      first = record {
        low = low;
        here = get_or-row n total words row (k * 64 + b) ∙ here;
        before = λ j from below.
            get_or-row n total words row j
            ∙ (elim (cases_lt j (64 * k)) [
              | inl earlier ↦ clear j from earlier
              | inr later ↦
                  let c : ℕ = j - k * 64 in
                  let e : k * 64 + c ≡ j = omega arith in
                  ap (bit_of words) (sym e) ∙ at c (omega arith)
                  ∙ ne_eqb _ 1 (let z = lowest.2 c (omega arith) in let m =
                  masks.high c (omega arith) (omega arith) in let f =
                  bit_at_and word mask c in omega (arith, z, m, f))
            ]);
      };
    }

pub skipped : (words : List ℕ) (i k word mask : ℕ) → Masks mask i k → word ≡ get_or words k 0 → bit_and word mask ≡ 0
    → ClearFrom words i (64 * k) → ClearFrom words i (64 * (k + 1))
skipped words i k word mask masks read none clear j from below =
    elim (cases_lt j (64 * k)) [
      | inl earlier ↦ clear j from earlier
      | inr later ↦
          let c : ℕ = j % 64 in
          let q : j / 64 ≡ k = omega arith in
          let z : bit_at (bit_and word mask) c ≡ 0 = ap (λ x. bit_at x c) none ∙ bit_at-zero c in
          let m : bit_at mask c ≡ 1 = masks.high c (omega arith) (omega arith) in
          let f : bit_at (bit_and word mask) c ≡ min (bit_at word c) (bit_at mask c) = bit_at_and word mask c in
          ap (λ x. eqb (bit_at (get_or words x 0) c) 1) q ∙ ap (λ x. eqb (bit_at x c) 1) (sym read)
          ∙ ne_eqb _ 1 (omega arith)
    ]

-- where the loop has passed all words
pub none_from : (words : List ℕ) (n total i k : ℕ) → IsRow words n total → length words ≤ k → ClearFrom words i (64 * k)
    → (j : ℕ) → i ≤ j → get_or (bits_of n words) j false ≡ false
none_from words n total i k row all clear j from =
    get_or-row n total words row j
    ∙ (elim (cases_lt j (64 * k)) [
      | inl earlier ↦ clear j from earlier
      | inr later ↦ bit_of_past words j (omega arith)
    ])

-- the rank

ones_of_bit : (b : ℕ) → b < 2 → count_ones b ≡ one (eqb b 1)
unfolding lib.Count.ones
ones_of_bit zero h = refl
ones_of_bit (suc zero) h = refl
ones_of_bit (suc (suc b)) h = absurd (omega arith)

-- the bits of a word below bit r
pub count_part : (words : List ℕ) (k r : ℕ) → r ≤ 64
    → set_count (bits_of (64 * k + r) words) ≡ set_count (bits_of (64 * k) words) + count_ones
    (get_or words k 0 % 2 ^ r)
unfolding set_count bits_of
count_part words k zero h =
    let n : 64 * k + 0 ≡ 64 * k = omega arith in
    let e : get_or words k 0 % 2 ^ 0 ≡ 0 = omega arith in
    let z : count_ones (get_or words k 0 % 2 ^ 0) ≡ 0 = ap count_ones e ∙ ones_of_bit 0 (omega arith) in
    let f : set_count (bits_of (64 * k + 0) words) ≡ set_count (bits_of (64 * k) words) =
    ap (λ x. set_count (bits_of x words)) n in
    omega arith
count_part words k (suc r) h =
    let word : ℕ = get_or words k 0 in
    let before = count_part words k r (omega arith) in
    let n : ℕ = 64 * k + r in
    let q : n / 64 ≡ k = omega arith in
    let m : n % 64 ≡ r = omega arith in
    let at : bit_of words n ≡ eqb (bit_at word r) 1 =
    ap (λ x. eqb (bit_at (get_or words x 0) (n % 64)) 1) q ∙ ap (λ x. eqb (bit_at word x) 1) m in
    let next : set_count (bits_of (n + 1) words) ≡ set_count (bits_of n words) + one (bit_of words n) =
    sum_by-map-range_with_len_more one (bit_of words) 0 n n (omega arith) in
    let cut : word % 2 ^ (1 + r) ≡ bit_at word r * 2 ^ r + word % 2 ^ r = mod-pow-add word 1 r in
    let ones : count_ones (word % 2 ^ (1 + r)) ≡ count_ones (bit_at word r) + count_ones (word % 2 ^ r) =
    ap count_ones cut ∙ ones_cat r (bit_at word r) (word % 2 ^ r) (mod_below word (2 ^ r) (pow_pos r)) in
    let more : set_count (bits_of (64 * k + suc r) words) ≡ set_count (bits_of (n + 1) words) =
    let e : 64 * k + suc r ≡ n + 1 = omega arith in ap (λ x. set_count (bits_of x words)) e in
    let power : count_ones (word % 2 ^ suc r) ≡ count_ones (word % 2 ^ (1 + r)) =
    let e : suc r ≡ 1 + r = omega arith in ap (λ x. count_ones (word % 2 ^ x)) e in
    let last : count_ones (bit_at word r) ≡ one (bit_of words n) = ones_of_bit _ (bit_at-lt word r) ∙ ap one (sym at) in
    omega arith

-- all bits of a word
pub count_word : (words : List ℕ) (k word : ℕ) → word ≡ get_or words k 0 → word < 2 ^ 64
    → set_count (bits_of (64 * (k + 1)) words) ≡ set_count (bits_of (64 * k) words) + count_ones word
count_word words k word read small =
    let e : get_or words k 0 % 2 ^ 64 ≡ word = omega arith in
    let c : count_ones (get_or words k 0 % 2 ^ 64) ≡ count_ones word = ap count_ones e in
    let n : 64 * (k + 1) ≡ 64 * k + 64 = omega arith in
    let f : set_count (bits_of (64 * (k + 1)) words) ≡ set_count (bits_of (64 * k + 64) words) =
    ap (λ x. set_count (bits_of x words)) n in
    f ∙ count_part words k 64 (omega arith) ∙ ap (λ x. set_count (bits_of (64 * k) words) + x) c

-- the bits below a place
pub count_below : (words : List ℕ) (i word : ℕ) → word ≡ get_or words (i / 64) 0
    → set_count (bits_of i words) ≡ set_count (bits_of (64 * (i / 64)) words) + count_ones (bit_and word (1 * 2 ^
    (i % 64) % 2 ^ 64 - 1))
count_below words i word read =
    let n : i ≡ 64 * (i / 64) + i % 64 = omega arith in
    let f : set_count (bits_of i words) ≡ set_count (bits_of (64 * (i / 64) + i % 64) words) =
    ap (λ x. set_count (bits_of x words)) n in
    let m : bit_and word (1 * 2 ^ (i % 64) % 2 ^ 64 - 1) ≡ get_or words (i / 64) 0 % 2 ^ (i % 64) =
    ap (λ x. bit_and word (x - 1)) (one_shl (i % 64) 64 (omega arith)) ∙ and_mask word (i % 64)
    ∙ ap (λ x. x % 2 ^ (i % 64)) read in
    f ∙ count_part words (i / 64) (i % 64) (omega arith)
    ∙ ap (λ x. set_count (bits_of (64 * (i / 64)) words) + count_ones x) (sym m)

-- the rank is the count of the bits below
pub rank_is : (n : ℕ) (words : List ℕ) (row : List Bool) (i c : ℕ) → i ≤ n → bits_of n words ≡ row
    → c ≡ set_count (bits_of i words)
    → c ≡ count_by (λ b. b) (take i row)
unfolding set_count
rank_is n words row i c h view e = e ∙ ap set_count (sym (take-bits_of n words i h) ∙ ap (take i) view)

-- what the functions of a row answer

-- a row that is closed: the list that contracts see
pub row_length : (n : ℕ) (words : List ℕ) (row : List Bool) → bits_of n words ≡ row → length row ≡ n
row_length n words row view = ap length (sym view) ∙ length-bits_of n words

pub bit_is : (n total : ℕ) (words : List ℕ) (row : List Bool) → IsRow words n total → bits_of n words ≡ row
    → (i : ℕ) → bit_of words i ≡ get_or row i false
bit_is n total words row is view i = sym (get_or-row n total words is i) ∙ ap (λ r. get_or r i false) view

-- the test `(word >> k) & 1 == 1`
pub test_is : (n total : ℕ) (words : List ℕ) (row : List Bool) (i word : ℕ) → IsRow words n total
    → bits_of n words ≡ row → word ≡ get_or words (i / 64) 0
    → eqb (bit_and (word / 2 ^ (i % 64)) 1) 1 ≡ get_or row i false
test_is n total words row i word is view read =
    ap (λ x. eqb x 1) (shr_and_one word (i % 64)) ∙ ap (λ x. eqb (bit_at x (i % 64)) 1) read
    ∙ bit_is n total words row is view i

pub test_past : (n total : ℕ) (words : List ℕ) (row : List Bool) (i : ℕ) → IsRow words n total
    → bits_of n words ≡ row → n ≤ i → get_or row i false ≡ false
test_past n total words row i is view past = sym (bit_is n total words row is view i) ∙ is.rest i past

-- a row without a bit is blank
pub blank_is : (n : ℕ) (words : List ℕ) (row : List Bool) → IsRow words n 0 → bits_of n words ≡ row
    → row ≡ replicate (length row) false
blank_is n words row is view = blank_from_count row (ap set_count (sym view) ∙ sym is.counted)

pub none_set : (n : ℕ) (words : List ℕ) (row : List Bool) → IsRow words n 0 → bits_of n words ≡ row → (j : ℕ)
    → get_or row j false ≡ false
none_set n words row is view j =
    ap (λ r. get_or r j false) (blank_is n words row is view)
    ∙ (elim (cases_lt j (length row)) [
      | inl within ↦ get_or-replicate (length row) j false false within
      | inr past ↦ get_or_past (replicate (length row) false) j false (omega (
        arith,
        length-replicate
            (length row) false,
      ))
    ])

pub blanked : (n m : ℕ) (words : List ℕ) (row : List Bool) → bits_of n words ≡ row
    → bits_of n (replicate m 0) ≡ replicate (length row) false
blanked n m words row view = bits_of_zeros n m ∙ ap (λ x. replicate x false) (sym (row_length n words row view))

pub same_put : (row : List Bool) (n i : ℕ) (bit : Bool) → length row ≡ n → n ≤ i → row ≡ set row i bit
same_put row n i bit len past = sym (set_past row i bit (omega arith))

pub same_put_here : (row : List Bool) (i : ℕ) (was bit : Bool) → was ≡ get_or row i false
    → not (beq was bit) ≡ false → row ≡ set row i bit
same_put_here row i true true read same = sym (ap (set row i) read ∙ set-get_or row i false)
same_put_here row i false false read same = sym (ap (set row i) read ∙ set-get_or row i false)
same_put_here row i true false read same = absurd (true≢false same)
same_put_here row i false true read same = absurd (true≢false same)

differs : (was bit : Bool) → not (beq was bit) ≡ true → was ≡ bit → ⊥
differs true true h e = true≢false (sym h)
differs true false h e = true≢false e
differs false true h e = true≢false (sym e)
differs false false h e = true≢false (sym h)

-- what a write makes of a row
pub put_is : (n total : ℕ) (words : List ℕ) (row : List Bool) (i word : ℕ) (was bit : Bool) → IsRow words n total
    → bits_of n words ≡ row → i < n
    → was ≡ get_or row i false → not (beq was bit) ≡ true → word ≡ get_or words (i / 64) word
    → Put words (set words (i / 64) (bit_xor word (1 * 2 ^ (i % 64) % 2 ^ 64))) n total i bit
put_is n total words row i word was bit is view within read other at =
    put_read words n total i word bit is within (λ e. differs was bit other (read
    ∙ ap (λ r. get_or r i false) (sym view) ∙ e))
    (get_or_read words (i / 64) word (omega (arith, is.room)) at 0)

pub next_is : (n total : ℕ) (words : List ℕ) (row : List Bool) (i k word mask : ℕ) → IsRow words n total
    → bits_of n words ≡ row → Masks mask i k
    → word ≡ get_or words k word → k < length words → mask < 2 ^ 64 → 0 < bit_and word mask → ClearFrom words i (64 * k)
    → (k * 64 + count_trailing_zeros 64 (bit_and word mask) < 2 ^ 32)
    × IsFirstFrom row i (k * 64 + count_trailing_zeros 64 (bit_and word mask))
next_is n total words row i k word mask is view masks at within small some clear =
    let f = found words n total i k word mask is masks (get_or_read words k word within at 0) small some clear in
    let within : k * 64 + count_trailing_zeros 64 (bit_and word mask) < n = f.within in
    (omega (arith, is.short), rw view at f.first)

-- the same of a whole word
pub first_in_word : (n total : ℕ) (words : List ℕ) (row : List Bool) (i k word : ℕ) → IsRow words n total
    → bits_of n words ≡ row → i ≤ 64 * k → word ≡ get_or words k word → k < length words → word < 2 ^ 64 → 0 < word
    → ClearFrom words i (64 * k)
    → (k * 64 + count_trailing_zeros 64 word < 2 ^ 32) × IsFirstFrom row i (k * 64 + count_trailing_zeros 64 word)
first_in_word n total words row i k word is view low at within small some clear =
    let whole : bit_and word (2 ^ 64 - 1) ≡ word = and_mask word 64 ∙ mod_of_small in
    subst (λ w. (k * 64 + count_trailing_zeros 64 w < 2 ^ 32) × IsFirstFrom row i (k * 64 + count_trailing_zeros 64 w))
    whole (next_is n total words row i k word (2 ^ 64 - 1) is view (masks_rest i k low) at within (omega arith)
    (omega (arith, whole, some)) clear)
  where
    mod_of_small : word % 2 ^ 64 ≡ word
    mod_of_small = omega (arith, small)

-- a word without a bit
pub skipped_word : (words : List ℕ) (i k word : ℕ) → i ≤ 64 * k → word ≡ get_or words k 0 → word ≡ 0
    → ClearFrom words i (64 * k) → ClearFrom words i (64 * (k + 1))
skipped_word words i k word low read none clear =
    skipped words i k word (2 ^ 64 - 1) (masks_rest i k low) read (and_mask word 64 ∙ omega (arith, none)) clear

pub set_count_none : (words : List ℕ) → 0 ≡ set_count (bits_of 0 words)
set_count_none words = omega (arith, set_count_le 0 words)

-- one more word of the rank
pub rank_more : (words : List ℕ) (k word below : ℕ) → below ≡ set_count (bits_of (64 * k) words)
    → word ≡ get_or words k word → k < length words → word < 2 ^ 64
    → (below + count_ones word ≡ set_count (bits_of (64 * (k + 1)) words)) × (below + count_ones word ≤ 64 * (k + 1))
rank_more words k word below so_far at within small =
    let e = count_word words k word (get_or_read words k word within at 0) small in
    (omega arith, omega (arith, set_count_le (64 * (k + 1)) words))

-- the rest of the rank, of a part of a word
pub rank_rest : (n total : ℕ) (words : List ℕ) (row : List Bool) (i k word below : ℕ) → IsRow words n total
    → bits_of n words ≡ row → i < n
    → i / 64 ≤ k → k ≤ i / 64 → below ≡ set_count (bits_of (64 * k) words) → word ≡ get_or words (i / 64) word
    → i / 64 < length words
    → (below + count_ones (bit_and word (1 * 2 ^ (i % 64) % 2 ^ 64 - 1)) < 2 ^ 32)
    × (below + count_ones (bit_and word (1 * 2 ^ (i % 64) % 2 ^ 64 - 1)) ≡ count_by (λ b. b) (take i row))
rank_rest n total words row i k word below is view inside high low so_far at within =
    let all : k ≡ i / 64 = omega arith in
    let done : below ≡ set_count (bits_of (64 * (i / 64)) words) = so_far
    ∙ ap (λ x. set_count (bits_of (64 * x) words)) all in
    let le : i ≤ n = omega arith in
    let e = count_below words i word (get_or_read words (i / 64) word within at 0) in
    (omega (arith, set_count_le i words, is.short), rank_is n words row i _ le view (omega arith))

-- and of a place past all bits
pub rank_past : (n total : ℕ) (words : List ℕ) (row : List Bool) (i : ℕ) → IsRow words n total
    → bits_of n words ≡ row → n ≤ i → total ≡ count_by (λ b. b) (take i row)
rank_past n total words row i is view past =
    rw (take_all i row (omega (arith, row_length n words row view))) (count_of is.counted view)
