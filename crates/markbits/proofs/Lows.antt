-- The word before which no bit of a bitmap is set.
use Rattle.std.proofs.Common.{◌≡◌, ℕ, ◌+◌, ◌*◌, ◌/◌, ◌%◌, ◌^◌, ◌<◌, ◌≤◌, Bool, true, false, List, length, replicate}
use Rattle.std.proofs.Common.{get_or, set, eqb, Option, Some, None, refl, sym, ◌∙◌, ap, subst, inl, inr, arith}
use Rattle.std.proofs.Common.{get_or-set_same, get_or-set_other}
use Rattle.std.proofs.lemmas.List.{get_or_read}
use Rattle.std.proofs.lemmas.Bool.{cases_eq, cases_lt}
use Rattle.std.proofs.lemmas.Nat.Bits.{bit_at-zero}
use Rattle.std.specs.Int.{bit_at, div_ceil}
use Rattle.markbits.specs.Words.{bits_of, IsRow, IsLow, IsNextPlace}
use Rattle.markbits.specs.Blocks.{IsNextInBlock}
use Rattle.markbits.proofs.Blocks.{none_in_block}
use Rattle.markbits.proofs.RowBits.{length-bits_of, get_or-row, bit_of_zeros, blank_row_is}
use Rattle.markbits.proofs.RowWords.{none_set}

-- where no bit is set each is
pub low_blank : (n m low : ℕ) → n < 2 ^ 32 → m ≡ div_ceil n 64 → IsLow (bits_of n (replicate m 0)) low
low_blank n m low short e i l = get_or-row n 0 (replicate m 0) (blank_row_is n m short e) i ∙ bit_of_zeros m i

-- a bit is set
pub low_set : (n : ℕ) (words after : List ℕ) (low k now : ℕ) → IsLow (bits_of n words) low
    → bits_of n after ≡ set (bits_of n words) k true → now ≤ k / 64 → now ≤ low → IsLow (bits_of n after) now
low_set n words after low k now clear put below lower i l =
    ap (λ (r : List Bool). get_or r i false) put
    ∙ get_or-set_other (bits_of n words) k i true false (λ same. omega (arith, l, below, same))
    ∙ clear i (omega (arith, l, lower))

-- a bit is cleared, where another is set
low_stays : (n total : ℕ) (words after : List ℕ) (low k now word : ℕ) → IsRow after n total
    → IsLow (bits_of n words) low → bits_of n after ≡ set (bits_of n words) k false → k < n
    → word ≡ get_or after (k / 64) word → k / 64 < length after
    → (low < now → (word ≡ 0) × (k / 64 ≡ low) × (now ≡ low + 1)) → IsLow (bits_of n after) now
low_stays n total words after low k now word is clear put within at there next i l =
    elim (cases_lt i (64 * low)) [
      | inl before ↦ ap (λ (r : List Bool). get_or r i false) put ∙ (elim (cases_eq i k) [
        | inl same ↦ ap (λ j. get_or (set (bits_of n words) k false) j false) same
            ∙ get_or-set_same (bits_of n words) k false false (omega (arith, within, length-bits_of n words))
        | inr apart ↦ get_or-set_other (bits_of n words) k i false false apart ∙ clear i before
      ])
      | inr behind ↦
          let moved = next (omega (arith, l, behind)) in
          let here : i / 64 ≡ k / 64 = omega (arith, l, behind, moved.1, moved.2) in
          get_or-row n total after is i
          ∙ ap (λ j. eqb (bit_at (get_or after j 0) (i % 64)) 1) here
          ∙ ap (λ w. eqb (bit_at w (i % 64)) 1) (sym (get_or_read after (k / 64) word there at 0) ∙ moved.0)
          ∙ ap (λ b. eqb b 1) (bit_at-zero (i % 64))
    ]

-- a bit is cleared
pub low_cleared : (n total : ℕ) (words after : List ℕ) (low k now word : ℕ) → IsRow after n total
    → IsLow (bits_of n words) low → bits_of n after ≡ set (bits_of n words) k false → k < n
    → word ≡ get_or after (k / 64) word → k / 64 < length after
    → (0 < total → low < now → (word ≡ 0) × (k / 64 ≡ low) × (now ≡ low + 1)) → IsLow (bits_of n after) now
low_cleared n total words after low k now word is clear put within at there next i l =
    elim (cases_lt 0 total) [
      | inl some ↦ low_stays n total words after low k now word is clear put within at there (next some) i l
      | inr none ↦
          let zero_total : total ≡ 0 = omega (arith, none) in
          none_set n after (bits_of n after) (subst (IsRow after n) zero_total is) refl i
    ]

-- the first place from a later word on is that from a place on, where no bit is set between
pub next_later : (row : List Bool) (low i first : ℕ) (result : Option ℕ) → IsLow row low → IsNextInBlock row i None
    → i / 64 + 1 ≤ first → (i / 64 + 1 < first → first ≤ low)
    → IsNextPlace row (64 * first) result → IsNextPlace row i result
next_later row low i first result clear none l jump = by_result result
  where
    between : (j : ℕ) → i ≤ j → j < 64 * first → get_or row j false ≡ false
    between j from below = elim (cases_lt j (64 * (i / 64 + 1))) [
      | inl near ↦ none_in_block row i j none from near
      | inr past ↦ clear j (omega (arith, below, past, jump (omega (arith, below, past))))
    ]

    by_result : (o : Option ℕ) → IsNextPlace row (64 * first) o → IsNextPlace row i o
    by_result None next = λ j from. elim (cases_lt j (64 * first)) [
      | inl below ↦ between j from below
      | inr behind ↦ next j behind
    ]
    by_result (Some k) next = record {
      low = omega (arith, l, next.low);
      here = next.here;
      before = λ j from below. elim (cases_lt j (64 * first)) [
        | inl near ↦ between j from near
        | inr behind ↦ next.before j behind below
      ];
    }
