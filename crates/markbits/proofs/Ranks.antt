-- Set bits counted from one number and one word, and found by their numbers.
use Rattle.std.proofs.Common.{◌≡◌, ◌⊎◌, inl, inr, ℕ, zero, suc, ◌+◌, ◌*◌, ◌-◌, ◌/◌, ◌%◌, ◌^◌, ◌<◌, ◌≤◌, Bool}
use Rattle.std.proofs.Common.{false}
use Rattle.std.proofs.Common.{cond, List, [], ◌∷◌, ◌++◌, length, take, get_or, refl, sym, ◌∙◌, ap}
use Rattle.std.proofs.Common.{arith}
use Rattle.std.specs.Prelude.{bit_and, count_ones, count_by}
use Rattle.std.proofs.Math.Seq.{get_or-append_seam}
use Rattle.std.proofs.lemmas.List.{get_or_append_left, get_or_read, take_all}
use Rattle.std.proofs.lemmas.List.Sums.{sum_by-cons}
use Rattle.std.proofs.lemmas.Bool.{cases_lt}
use Rattle.markbits.specs.Words.{bits_of, set_count, IsRow, IsFirstFrom}
use Rattle.markbits.specs.Ranks.{rank_of, IsRanked}
use Rattle.markbits.proofs.RowBits.{take-bits_of}
use Rattle.markbits.proofs.RowWords.{row_length, rank_rest, rank_more}

-- a bit as a number
abbrev as_one : Bool → ℕ
as_one b = cond b 1 0

more_bits : (b : Bool) (row : List Bool) → count_by (λ b. b) (b ∷ row) ≡ as_one b + count_by (λ b. b) row
more_bits b row = sum_by-cons (λ (x : Bool). cond x 1 0) b row

none_below : (row : List Bool) → rank_of row 0 ≡ 0
none_below [] = refl
none_below (b ∷ row) = refl

-- one place more
pub rank_next : (row : List Bool) (k : ℕ) → rank_of row (k + 1) ≡ rank_of row k + as_one (get_or row k false)
rank_next row k = ap (rank_of row) (behind k) ∙ at row k
  where
    behind : (n : ℕ) → n + 1 ≡ suc n
    behind n = omega arith

    at : (row : List Bool) (k : ℕ) → rank_of row (suc k) ≡ rank_of row k + as_one (get_or row k false)
    at [] zero = refl
    at [] (suc k) = refl
    at (b ∷ row) zero = omega (arith, more_bits b (take 0 row), none_below row, none_below (b ∷ row))
    at (b ∷ row) (suc k) = omega (arith, more_bits b (take (suc k) row), at row k, more_bits b (take k row))

-- where no bit is set between two places, no more are below the second
pub rank_stays : (row : List Bool) (i n : ℕ) → ((j : ℕ) → i ≤ j → j < i + n → get_or row j false ≡ false)
    → rank_of row (i + n) ≡ rank_of row i
rank_stays row i zero clear = let e : i + 0 ≡ i = omega arith in ap (rank_of row) e
rank_stays row i (suc n) clear =
    let e : i + suc n ≡ i + n + 1 = omega arith in
    let none : as_one (get_or row (i + n) false) ≡ 0 = ap as_one (clear (i + n) (omega arith) (omega arith)) in
    let before = rank_stays row i n (λ j low high. clear j low (omega (arith, high))) in
    ap (rank_of row) e ∙ omega (arith, rank_next row (i + n), none, before)

-- as many are below the first that is set from a place on as below that place
pub rank_first : (row : List Bool) (i k : ℕ) → IsFirstFrom row i k → rank_of row k ≡ rank_of row i
rank_first row i k first =
    let e : i + (k - i) ≡ k = omega (arith, first.low) in
    ap (rank_of row) (sym e) ∙ rank_stays row i (k - i) (λ j low high. first.before j low (omega (arith, high, e)))

-- and one more behind it
pub rank_behind_first : (row : List Bool) (i k : ℕ) → IsFirstFrom row i k → rank_of row (k + 1) ≡ rank_of row i + 1
rank_behind_first row i k first =
    let one : as_one (get_or row k false) ≡ 1 = ap as_one first.here in
    omega (arith, rank_next row k, rank_first row i k first, one)

-- where none is set from a place on, all are below it
pub rank_all : (row : List Bool) (i : ℕ) → ((j : ℕ) → i ≤ j → get_or row j false ≡ false)
    → count_by (λ b. b) row ≡ rank_of row i
rank_all row i clear =
    ap (count_by (λ b. b)) (sym (take_all (i + length row) row (omega arith)))
    ∙ rank_stays row i (length row) (λ j low high. clear j low)

-- what is counted in the list is what is counted in the words
pub counted_words : (n i : ℕ) (words : List ℕ) (row : List Bool) → bits_of n words ≡ row → i ≤ n
    → rank_of row i ≡ set_count (bits_of i words)
unfolding set_count
counted_words n i words row view l =
    ap (λ (r : List Bool). rank_of r i) (sym view) ∙ ap (count_by (λ b. b)) (take-bits_of n words i l)

-- the bits below a place, by those below its word
pub rank_part : (n total : ℕ) (words : List ℕ) (row : List Bool) (i word below : ℕ) → IsRow words n total
    → bits_of n words ≡ row → i < length row → below ≡ rank_of row (64 * (i / 64)) → word ≡ get_or words (i / 64) word
    → (below + count_ones (bit_and word (1 * 2 ^ (i % 64) % 2 ^ 64 - 1)) < 2 ^ 32)
    × (below + count_ones (bit_and word (1 * 2 ^ (i % 64) % 2 ^ 64 - 1)) ≡ rank_of row i)
rank_part n total words row i word below is view inside so_far at =
    let many = row_length n words row view in
    rank_rest n total words row i (i / 64) word below is view (omega (arith, inside, many)) (omega arith) (omega arith)
    (so_far ∙ counted_words n (64 * (i / 64)) words row view (omega (arith, inside, many))) at
    (omega (arith, inside, many, is.room))

-- the bits below a word, by those below the word before it
pub rank_of_word : (n total : ℕ) (words : List ℕ) (row : List Bool) (k word below : ℕ) → IsRow words n total
    → bits_of n words ≡ row → 0 < k → 64 * k ≤ length row → below ≡ rank_of row (64 * (k - 1))
    → word ≡ get_or words (k - 1) word → word < 2 ^ 64
    → (below + count_ones word < 2 ^ 32) × (below + count_ones word ≡ rank_of row (64 * k))
rank_of_word n total words row k word below is view low there so_far at small =
    let many = row_length n words row view in
    let next : 64 * (k - 1 + 1) ≡ 64 * k = omega (arith, low) in
    let more = rank_more words (k - 1) word below
    (so_far ∙ counted_words n (64 * (k - 1)) words row view (omega (arith, there, many))) at
    (omega (arith, there, many, low, is.room)) small in (
      omega (arith, more.1, next, there, many, is.short),
      more.0 ∙ ap (λ m. set_count (bits_of m words)) next
          ∙ sym (counted_words n (64 * k) words row view (omega (arith, there, many))),
    )

-- a number more is noted
pub ranked_more : (row : List Bool) (before : List ℕ) (k last : ℕ) → length before ≡ k
    → ((j : ℕ) → j < k → get_or before j 0 ≡ rank_of row (64 * j)) → last ≡ rank_of row (64 * k)
    → (j : ℕ) → j < k + 1 → get_or (before ++ last ∷ []) j 0 ≡ rank_of row (64 * j)
ranked_more row before k last many so_far is j l = by_place (cases_lt j k)
  where
    by_place : (j < k) ⊎ (k ≤ j) → get_or (before ++ last ∷ []) j 0 ≡ rank_of row (64 * j)
    by_place (inl m) = get_or_append_left before (last ∷ []) 0 j (omega (arith, m, many)) ∙ so_far j m
    by_place (inr m) =
        let here : j ≡ length before = omega (arith, l, m, many) in
        let at : k ≡ j = omega (arith, l, m) in
        ap (λ i. get_or (before ++ last ∷ []) i 0) here ∙ get_or-append_seam before last [] 0 ∙ is
        ∙ ap (λ i. rank_of row (64 * i)) at

-- the number of a word that is read
pub ranked_at : (row : List Bool) (before : List ℕ) (k n : ℕ) → IsRanked row before → k < length before
    → n ≡ get_or before k n → n ≡ rank_of row (64 * k)
ranked_at row before k n is there at = get_or_read before k n there at 0 ∙ is.each k there
