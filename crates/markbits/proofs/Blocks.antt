-- The index of a bitmap's blocks of 64 places.
use Rattle.std.proofs.Common.{◌≡◌, ℕ, ◌+◌, ◌-◌, ◌*◌, ◌/◌, ◌%◌, ◌^◌, ◌<◌, ◌≤◌, Bool, true, false, List, length, take}
use Rattle.std.proofs.Common.{get_or, set, Option, Some, None, refl, sym, ◌∙◌, ap, inl, inr, arith, length-set, w64}
use Rattle.std.proofs.Common.{get_or-set_same, get_or-set_other, true≢false}
use Rattle.std.proofs.lemmas.List.{get_or-take, get_or_past, get_or_read, length-take}
use Rattle.std.proofs.lemmas.Bool.{cases_eq, cases_lt}
use Rattle.std.proofs.lemmas.Nat.{and_le_r}
use Rattle.std.proofs.lemmas.Nat.Bits.{bit_at-trailing_zeros}
use Rattle.std.specs.Prelude.{bit_and, is_some}
use Rattle.std.specs.Int.{div_ceil, trailing_zeros}
use Rattle.markbits.specs.Words.{IsFirstFrom, IsNextPlace, IsRow, bits_of}
use Rattle.markbits.specs.Blocks.{IsIndex, IsNextInBlock}
use Rattle.markbits.proofs.RowBits.{bit_of_past}
use Rattle.markbits.proofs.RowWords.{ClearFrom, bit_is, next_is, skipped, masks_first}

-- a place that is set is one of the row's
pub set_within : (row : List Bool) (i : ℕ) → get_or row i false ≡ true → i < length row
set_within row i here =
    elim (cases_lt i (length row)) [
      | inl within ↦ within
      | inr past ↦ absurd (true≢false (sym here ∙ get_or_past row i false past))
    ]

-- a place that isn't set
pub not_set : (b : Bool) → (b ≡ true → ⊥) → b ≡ false
not_set true no_true = absurd (no_true refl)
not_set false no_true = refl

-- a place that is set in the first n places
pub set_taken : (row : List Bool) (n i : ℕ) → get_or (take n row) i false ≡ true
    → (i < n) × (get_or row i false ≡ true)
set_taken row n i here =
    elim (cases_lt i n) [
      | inl within ↦ (within, sym (get_or-take n row i false within) ∙ here)
      | inr past ↦ absurd (true≢false (sym here
          ∙ get_or_past (take n row) i false (omega (arith, length-take n row))))
    ]

-- the first place in its block is the first of all
pub found_in_block : (row : List Bool) (n i k : ℕ) → IsFirstFrom (take n row) i k → IsFirstFrom row i k
found_in_block row n i k first =
    let here = set_taken row n k first.here in
    record {
      low = first.low;
      here = here.1;
      before = λ j from below. sym (get_or-take n row j false (omega (arith, here.0))) ∙ first.before j from below;
    }

-- where the block has none, none is set before the next block
pub none_in_block : (row : List Bool) (i j : ℕ) → IsNextInBlock row i None → i ≤ j → j < 64 * (i / 64 + 1)
    → get_or row j false ≡ false
none_in_block row i j none from below =
    sym (get_or-take (64 * (i / 64 + 1)) row j false below) ∙ none j from

-- a block that is clear has none
pub clear_block : (row blocks : List Bool) (j : ℕ) → IsIndex row blocks → get_or blocks (j / 64) false ≡ false
    → get_or row j false ≡ false
clear_block row blocks j index clear = not_set _ (λ here. true≢false (sym (index.all j here) ∙ clear))

-- where neither the block nor a later one has a place, none is set
pub none_later : (row blocks : List Bool) (i : ℕ) → IsIndex row blocks → IsNextInBlock row i None
    → IsNextPlace blocks (i / 64 + 1) None → IsNextPlace row i None
none_later row blocks i index here later j from =
    elim (cases_lt j (64 * (i / 64 + 1))) [
      | inl below ↦ none_in_block row i j here from below
      | inr past ↦ clear_block row blocks j index (later (j / 64) (omega arith))
    ]

-- the first block that has a place has the first place
pub in_later : (row blocks : List Bool) (i b : ℕ) (result : Option ℕ) → IsIndex row blocks
    → IsNextInBlock row i None → IsFirstFrom blocks (i / 64 + 1) b
    → IsNextInBlock row (b * 64) result → IsNextPlace row i result
in_later row blocks i b None index here block none =
    let some = index.only b block.here in
    absurd (true≢false (sym some.2
    ∙ none_in_block row (b * 64) some.0 none (omega (arith, some.1)) (omega (arith, some.1))))
in_later row blocks i b (Some k) index here block found =
    let first = found_in_block row (64 * (b * 64 / 64 + 1)) (b * 64) k found in
    record {
      low = omega (arith, first.low, block.low);
      here = first.here;
      before = λ j from below. elim (cases_lt j (64 * (i / 64 + 1))) [
        | inl near ↦ none_in_block row i j here from near
        | inr past ↦ elim (cases_lt j (b * 64)) [
          | inl between ↦ clear_block row blocks j index (block.before (j / 64) (omega arith) (omega arith))
          | inr inside ↦ first.before j inside below
        ]
      ];
    }

-- the next place in a block, by the words

-- the places of a word from place i on
abbrev pub mask : ℕ → ℕ
mask i = (2 ^ 64 - 1) * 2 ^ (i % 64) % 2 ^ 64

-- the word of place i without the places below i
abbrev pub rest_of_word : ℕ → ℕ → ℕ
rest_of_word word i = bit_and word (mask i)

module _ (n total : ℕ) (words : List ℕ) (row : List Bool) (i : ℕ) (is : IsRow words n total)
    (view : bits_of n words ≡ row) where
  abbrev end : ℕ
  end = 64 * (i / 64 + 1)

  clear_in_block : ClearFrom words i end → IsNextInBlock row i None
  clear_in_block clear j from =
      elim (cases_lt j end) [
        | inl below ↦ get_or-take end row j false below
            ∙ sym (bit_is n total words row is view j) ∙ clear j from below
        | inr past ↦ get_or_past (take end row) j false (omega (arith, length-take end row))
      ]

  -- behind the last word
  pub no_word : length words ≤ i / 64 → IsNextInBlock row i None
  no_word past = clear_in_block (λ j from below. bit_of_past words j (omega arith))

  nothing_before : ClearFrom words i (64 * (i / 64))
  nothing_before j from below = absurd (omega arith)

  module _ (word : ℕ) (at : word ≡ get_or words (i / 64) word) (within : i / 64 < length words) where
    -- a word with no bit from the place on
    pub no_rest : rest_of_word word i ≡ 0 → IsNextInBlock row i None
    no_rest none = clear_in_block (skipped words i (i / 64) word _ (masks_first i)
        (get_or_read words (i / 64) word within at 0) none nothing_before)

    -- a word with one
    pub first_of_rest : 0 < rest_of_word word i
        → (i / 64 * 64 + trailing_zeros w64 (rest_of_word word i) < 2 ^ 32)
        × IsNextInBlock row i (Some (i / 64 * 64 + trailing_zeros w64 (rest_of_word word i)))
    first_of_rest some =
        let small : mask i < 2 ^ 64 = omega arith in
        let next = next_is n total words row i (i / 64) word _ is view (masks_first i) at within small some
        nothing_before in
        let low : trailing_zeros w64 (rest_of_word word i) < 64 =
        (bit_at-trailing_zeros w64 (rest_of_word word i) some (omega (arith, and_le_r word (mask i)))).0 in
        let first : IsFirstFrom row i (i / 64 * 64 + trailing_zeros w64 (rest_of_word word i)) = next.1 in (
          next.0,
          record {
            low = first.low;
            here = get_or-take end row _ false (omega arith) ∙ first.here;
            before = λ j from below. get_or-take end row j false (omega arith) ∙ first.before j from below;
          },
        )

-- a bit that is written

module _ (row blocks : List Bool) (i : ℕ) (bit : Bool) (index : IsIndex row blocks) where
  abbrev after : List Bool
  after = set row i bit

  some_is : (result : Option ℕ) → IsNextInBlock after (i / 64 * 64) result → (k : ℕ) → k / 64 ≡ i / 64
      → get_or after k false ≡ true → is_some result ≡ true
  some_is (Some p) next k same here = refl
  some_is None next k same here =
      absurd (true≢false (sym here ∙ none_in_block after (i / 64 * 64) k next (omega arith) (omega arith)))

  place_of : (result : Option ℕ) → IsNextInBlock after (i / 64 * 64) result → is_some result ≡ true
      → (k : ℕ) × (k / 64 ≡ i / 64) × (get_or after k false ≡ true)
  place_of None next some = absurd (true≢false (sym some))
  place_of (Some p) next some =
      let here = set_taken after _ p next.here in (p, omega (arith, here.0, next.low), here.1)

  abbrev indexed : Option ℕ → List Bool
  indexed result = set blocks (i / 64) (is_some result)

  -- the bit of the block is written as the next place in it says
  put_block : (result : Option ℕ) → IsNextInBlock after (i / 64 * 64) result
      → IsIndex after (set blocks (i / 64) (is_some result))
  put_block result next = record {
    room = length-set blocks (i / 64) (is_some result) ∙ index.room
        ∙ ap (λ n. div_ceil n 64) (sym (length-set row i bit));
    all = λ k here. elim (cases_eq (k / 64) (i / 64)) as (λ _. get_or (indexed result) (k / 64) false ≡ true) [
      | inl same ↦
          let within : i / 64 < length blocks =
          omega (arith, set_within after k here, length-set row i bit, index.room) in
          ap (λ j. get_or (indexed result) j false) same ∙ get_or-set_same blocks (i / 64) (is_some result) false within
          ∙ some_is result next k same here
      | inr apart ↦
          get_or-set_other blocks (i / 64) (k / 64) (is_some result) false apart
          ∙ index.all k (sym (get_or-set_other row i k bit false (λ e. apart (ap (λ x. x / 64) e))) ∙ here)
    ];
    only = λ j here. elim (cases_eq j (i / 64)) as (λ _. (k : ℕ) × (k / 64 ≡ j) × (get_or after k false ≡ true)) [
      | inl same ↦
          let within : i / 64 < length blocks =
          omega (arith, set_within (indexed result) j here, length-set blocks (i / 64) (is_some result)) in
          let some : is_some result ≡ true = sym (get_or-set_same blocks (i / 64) (is_some result) false within)
          ∙ ap (λ j. get_or (indexed result) j false) (sym same) ∙ here in
          let place = place_of result next some in (place.0, place.1 ∙ sym same, place.2)
      | inr apart ↦
          let old = index.only j (sym (get_or-set_other blocks (i / 64) j (is_some result) false apart) ∙ here) in
          let other : get_or after old.0 false ≡ get_or row old.0 false =
          get_or-set_other row i old.0 bit false (λ e. apart (sym old.1 ∙ ap (λ x. x / 64) e)) in
          (old.0, old.1, other ∙ old.2)
    ];
  }

  pub put_index : (new indexed : List Bool) (has : Bool) (result : Option ℕ) → new ≡ after
      → IsNextInBlock new (i / 64 * 64) result → has ≡ is_some result → indexed ≡ set blocks (i / 64) has
      → IsIndex new indexed
  put_index new indexed has result is next some written =
      rw (written, some, is) (put_block result (rw is at next))
