-- Entries found by the rank of their offsets.
use Rattle.std.proofs.Common.{◌≡◌, ℕ, zero, suc, ◌+◌, ◌<◌, ◌≤◌, Bool, true, false, cond, List, [], ◌∷◌}
use Rattle.std.proofs.Common.{length, take, map, get_or, count_by, Some, None}
use Rattle.std.proofs.Common.{refl, sym, ◌∙◌, ap, arith}
use Rattle.std.specs.List.{slice_get, range_with_len}
use Rattle.std.specs.Prelude.{is_some}
use Rattle.std.proofs.lemmas.List.Sums.{sum_by-cons, count_by-le-length}
use Rattle.std.proofs.lemmas.List.FromFn.{get_or-map-range_with_len, length-map-range_with_len}
use Rattle.std.proofs.lemmas.Option.{slice_get-get_or, slice_get_within, same_Some}
use Rattle.std.proofs.lemmas.Bool.{true≢false}
use Rattle.model.specs.declared.limits.TheConstants.{MOST_WORDS}
use Rattle.model.specs.declared.records.Forwarding.{Forwarding}
use Rattle.model.specs.Holding.{AreRising}
use Rattle.model.specs.Marks.{entry_of}
use Rattle.model.specs.Plans.{offsets_from}
use Rattle.markbits.specs.Ranks.{rank_of}
use Rattle.forward.specs.Ranked.{numbered_entry, entries_of, AreEntries}
use Rattle.forward.proofs.Entries.{entry_none, entry_here}

-- a bit as a number
abbrev as_one : Bool → ℕ
as_one b = cond b 1 0

abbrev total : List Bool → ℕ
total row = count_by (λ b. b) row

more_bits : (b : Bool) (row : List Bool) → total (b ∷ row) ≡ as_one b + total row
more_bits b row = sum_by-cons (λ (x : Bool). cond x 1 0) b row

one_more : (n m : ℕ) → n ≡ 1 + m → n ≡ suc m
one_more n m e = omega (arith, e)

no_more : (n m : ℕ) → n ≡ 0 + m → n ≡ m
no_more n m e = omega (arith, e)

-- the offset of the number that is the rank of a set bit is that bit's
pub ranked_offset : (b : ℕ) (row : List Bool) (k : ℕ) → get_or row k false ≡ true
    → get_or (offsets_from b row) (rank_of row k) 0 ≡ b + k
ranked_offset b [] k e = absurd (true≢false (sym e))
ranked_offset b (true ∷ row) zero e = omega arith
ranked_offset b (false ∷ row) zero e = absurd (true≢false (sym e))
ranked_offset b (true ∷ row) (suc k) e =
    ap (λ n. get_or (b ∷ offsets_from (b + 1) row) n 0) (one_more _ _ (more_bits true (take k row)))
    ∙ ranked_offset (b + 1) row k e ∙ omega arith
ranked_offset b (false ∷ row) (suc k) e =
    ap (λ n. get_or (offsets_from (b + 1) row) n 0) (no_more _ _ (more_bits false (take k row)))
    ∙ ranked_offset (b + 1) row k e ∙ omega arith

-- it is one of the numbers
pub rank_within : (row : List Bool) (k : ℕ) → get_or row k false ≡ true → rank_of row k < total row
rank_within [] k e = absurd (true≢false (sym e))
rank_within (true ∷ row) zero e = omega (arith, more_bits true row)
rank_within (false ∷ row) zero e = absurd (true≢false (sym e))
rank_within (true ∷ row) (suc k) e =
    omega (arith, more_bits true (take k row), more_bits true row, rank_within row k e)
rank_within (false ∷ row) (suc k) e =
    omega (arith, more_bits false (take k row), more_bits false row, rank_within row k e)

-- there are as many offsets as set bits
pub offsets_many : (b : ℕ) (row : List Bool) → length (offsets_from b row) ≡ total row
offsets_many b [] = refl
offsets_many b (true ∷ row) = omega (arith, more_bits true row, offsets_many (b + 1) row)
offsets_many b (false ∷ row) = omega (arith, more_bits false row, offsets_many (b + 1) row)

-- the offset of a number is a set bit, of which it is the rank
pub record IsBitOf (b : ℕ) (row : List Bool) (i k : ℕ) : Type 0 where
  pub offset : get_or (offsets_from b row) i 0 ≡ b + k
  pub set : get_or row k false ≡ true
  pub rank : rank_of row k ≡ i
  pub within : k < length row

pub bit_numbered : (b : ℕ) (row : List Bool) (i : ℕ) → i < total row → (k : ℕ) × IsBitOf b row i k
bit_numbered b [] i l = absurd (omega (arith, l))
bit_numbered b (true ∷ row) zero l =
    (zero, record { offset = omega arith; set = refl; rank = refl; within = omega arith })
bit_numbered b (true ∷ row) (suc i) l =
    let (k, is) = bit_numbered (b + 1) row i (omega (arith, l, more_bits true row)) in (
      suc k,
      record {
        offset = omega (arith, is.offset);
        set = is.set;
        rank = omega (arith, more_bits true (take k row), is.rank);
        within = omega (arith, is.within);
      },
    )
bit_numbered b (false ∷ row) i l =
    let (k, is) = bit_numbered (b + 1) row i (omega (arith, l, more_bits false row)) in (
      suc k,
      record {
        offset = omega (arith, is.offset);
        set = is.set;
        rank = omega (arith, more_bits false (take k row), is.rank);
        within = omega (arith, is.within);
      },
    )

-- offsets rise
pub offsets_rise : (b : ℕ) (row : List Bool) (i : ℕ) → suc i < total row
    → get_or (offsets_from b row) i 0 < get_or (offsets_from b row) (suc i) 0
offsets_rise b [] i l = absurd (omega (arith, l))
offsets_rise b (true ∷ row) zero l =
    let (k, is) = bit_numbered (b + 1) row 0 (omega (arith, l, more_bits true row)) in omega (arith, is.offset)
offsets_rise b (true ∷ row) (suc i) l = offsets_rise (b + 1) row i (omega (arith, l, more_bits true row))
offsets_rise b (false ∷ row) i l = offsets_rise (b + 1) row i (omega (arith, l, more_bits false row))

-- an entry is read by its number
module _ (live : List Bool) (places : List ℕ) (copied : List Bool) where
  pub entry_read : (i : ℕ) → i < length places
      → slice_get (entries_of live places copied) i ≡ Some (numbered_entry live places copied i)
  unfolding entries_of
  entry_read i l =
      slice_get-get_or (entries_of live places copied) i (numbered_entry live places copied i)
      (omega (arith, l, length-map-range_with_len (numbered_entry live places copied) 0 (length places)))
      ∙ ap Some (get_or-map-range_with_len (numbered_entry live places copied) 0 (length places) i i
      (numbered_entry live places copied i) l (omega arith))

  pub entries_many : length (entries_of live places copied) ≡ length places
  unfolding entries_of
  entries_many = length-map-range_with_len (numbered_entry live places copied) 0 (length places)

  module _ (is : AreEntries live places copied) where
    -- entries rise from the one of a number on
    rising_from : (n a low : ℕ) → a + n ≡ length places
        → (0 < n → low ≤ get_or (offsets_from 0 live) a 0)
        → AreRising MOST_WORDS low (map (numbered_entry live places copied) (range_with_len a n))
    rising_from zero a low e l = tt
    rising_from (suc n) a low e l =
        let (k, bit) = bit_numbered 0 live a (omega (arith, e, is.many)) in (
          l (omega arith),
          omega (arith, bit.offset, bit.within, is.short),
          rising_from n (a + 1) (get_or (offsets_from 0 live) a 0 + 1) (omega (arith, e))
              (λ some. omega (arith, offsets_rise 0 live a (omega (arith, e, some, is.many)), next a)),
        )
      where
        plus_one : (n : ℕ) → suc n ≡ n + 1
        plus_one n = omega arith

        next : (n : ℕ) → get_or (offsets_from 0 live) (suc n) 0 ≡ get_or (offsets_from 0 live) (n + 1) 0
        next n = ap (λ m. get_or (offsets_from 0 live) m 0) (plus_one n)

    pub entries_rise : AreRising MOST_WORDS 0 (entries_of live places copied)
    unfolding entries_of
    entries_rise = rising_from (length places) 0 0 (omega arith) (λ some. omega arith)

    -- the entry of an offset whose bit is set is that of the bit's rank
    pub entry_ranked : (o : ℕ) → get_or live o false ≡ true
        → entry_of (entries_of live places copied) o ≡ Some (numbered_entry live places copied (rank_of live o))
    entry_ranked o e = entry_here MOST_WORDS 0 (entries_of live places copied) o (rank_of live o) _ entries_rise
        (entry_read (rank_of live o) (omega (arith, rank_within live o e, is.many)))
        (ranked_offset 0 live o e ∙ omega arith)

    -- that entry by its number
    pub number_ranked : (o i : ℕ) → get_or live o false ≡ true → i ≡ rank_of live o
        → entry_of (entries_of live places copied) o ≡ slice_get (entries_of live places copied) i
    number_ranked o i e at = entry_ranked o e
        ∙ sym (entry_read (rank_of live o) (omega (arith, rank_within live o e, is.many)))
        ∙ ap (slice_get (entries_of live places copied)) (sym at)

    pub rank_few : (o i : ℕ) → get_or live o false ≡ true → i ≡ rank_of live o → i ≤ MOST_WORDS
    rank_few o i e at = omega (arith, at, rank_within live o e, count_by-le-length (λ b. b) live, is.short)

    -- where the bit isn't set there is none
    pub none_ranked : (o : ℕ) → get_or live o false ≡ false → entry_of (entries_of live places copied) o ≡ None
    none_ranked o e = entry_none (entries_of live places copied) o (λ i f at same.
        let within = slice_get_within (entries_of live places copied) i f at in
        let (k, bit) = bit_numbered 0 live i (omega (arith, within, entries_many, is.many)) in
        let f_is : numbered_entry live places copied i ≡ f =
        same_Some _ _ (sym (entry_read i (omega (arith, within, entries_many))) ∙ at) in
        let here : o ≡ k = omega (arith, same, ap (λ (x : Forwarding). x.offset) f_is, bit.offset) in
        absurd (true≢false (sym bit.set ∙ ap (λ n. get_or live n false) (sym here) ∙ e)))

    -- a bit is set exactly where there is an entry
    pub live_of : (o : ℕ) → get_or live o false ≡ is_some (entry_of (entries_of live places copied) o)
    live_of o = by_bit (get_or live o false) refl
      where
        by_bit : (b : Bool) → get_or live o false ≡ b → b ≡ is_some (entry_of (entries_of live places copied) o)
        by_bit true e = sym (ap is_some (entry_ranked o e))
        by_bit false e = sym (ap is_some (none_ranked o e))

    pub entries_few : length (entries_of live places copied) ≤ MOST_WORDS
    entries_few = omega (arith, entries_many, is.many, count_by-le-length (λ b. b) live, is.short)
