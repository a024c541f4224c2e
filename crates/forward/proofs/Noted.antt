-- Entries that are noted as copied by their numbers, and the entry after another.
use Rattle.std.proofs.Common.{◌≡◌, ℕ, zero, suc, ◌+◌, ◌-◌, ◌<◌, ◌≤◌, Bool, true, false, cond, List, ◌⊎◌, inl, inr}
use Rattle.std.proofs.Common.{length, map, set, get_or, Option, Some, None, refl, sym, ◌∙◌, ap, arith, length-set}
use Rattle.std.specs.List.{slice_get}
use Rattle.std.proofs.lemmas.Bool.{cases_order}
use Rattle.std.proofs.lemmas.List.{get_or_default, set-get_or, set_past}
use Rattle.std.proofs.lemmas.Option.{same_Some, slice_get_within}
use Rattle.model.specs.declared.limits.TheConstants.{MOST_WORDS}
use Rattle.model.specs.declared.records.Forwarding.{Forwarding}
use Rattle.model.specs.Moves.{set_copied_of}
use Rattle.model.specs.Plans.{offsets_from}
use Rattle.markbits.specs.Ranks.{rank_of}
use Rattle.markbits.specs.Words.{IsFirstFrom, IsNextPlace}
use Rattle.markbits.proofs.Ranks.{rank_next, rank_first, rank_all}
use Rattle.forward.specs.Flags.{put_run}
use Rattle.forward.specs.Noting.{offset_of, place_of, place_to_copy, noted_side, noted_run}
use Rattle.forward.specs.Ranked.{numbered_entry, entries_of, AreEntries, IsKept}
use Rattle.forward.proofs.Edited.{noted, past_all}
use Rattle.forward.proofs.Ranked.{entry_read, entries_many, entries_few, bit_numbered, ranked_offset}

-- a bit as a number
abbrev as_one : Bool → ℕ
as_one b = cond b 1 0

module _ (live : List Bool) (places : List ℕ) (copied : List Bool) where
  abbrev all : List Forwarding
  all = entries_of live places copied

  -- the place of an entry is read
  pub place_read : (i to : ℕ) → i < length places → to ≡ get_or places i 0 → Some to ≡ place_of (slice_get all i)
  place_read i to l at = ap Some at ∙ sym (ap place_of (entry_read live places copied i l))

  -- there is none after the last
  pub none_there : (i : ℕ) → length places ≤ i → None ≡ slice_get all i
  none_there i l = past_all all i (omega (arith, l, entries_many live places copied))

  -- one that is copied isn't noted again
  module _ (i : ℕ) (l : i < length places) (flag : true ≡ get_or copied i false) where
    pub told_none : None ≡ place_to_copy (slice_get all i)
    told_none = ap (λ b. cond b None (Some (get_or places i 0))) flag
        ∙ sym (ap place_to_copy (entry_read live places copied i l))

    pub not_noted : all ≡ noted_side (slice_get all i) all
    not_noted = ap (λ b. cond b all (map (set_copied_of (get_or (offsets_from 0 live) i 0)) all)) flag
        ∙ sym (ap (λ o. noted_side o all) (entry_read live places copied i l))

  -- one that isn't
  module _ (is : AreEntries live places copied) (i : ℕ) (l : i < length places) (flag : false ≡ get_or copied i false)
    where
      pub told_place : (to : ℕ) → to ≡ get_or places i 0 → Some to ≡ place_to_copy (slice_get all i)
      told_place to at = ap Some at ∙ ap (λ b. cond b None (Some (get_or places i 0))) flag
          ∙ sym (ap place_to_copy (entry_read live places copied i l))

      noted_number : entries_of live places (set copied i true) ≡ noted_side (slice_get all i) all
      noted_number =
          let (k, bit) = bit_numbered 0 live i (omega (arith, l, is.many)) in
          let at : k ≡ get_or (offsets_from 0 live) i 0 = omega (arith, bit.offset) in
          ap (λ r. entries_of live places (set copied r true)) (sym bit.rank) ∙ noted live places copied is k bit.set
          ∙ ap (λ o. map (set_copied_of o) all) at
          ∙ ap (λ b. cond b all (map (set_copied_of (get_or (offsets_from 0 live) i 0)) all)) flag
          ∙ sym (ap (λ o. noted_side o all) (entry_read live places copied i l))

  -- one that may be either, or not there
  module _ (is : AreEntries live places copied) (i : ℕ) where
    noted_one : entries_of live places (set copied i true) ≡ noted_side (slice_get all i) all
    noted_one = by_place (cases_order i (length places))
      where
        by_flag : (l : i < length places) (b : Bool) → b ≡ get_or copied i false
            → entries_of live places (set copied i true) ≡ noted_side (slice_get all i) all
        by_flag l false flag = noted_number is i l flag
        by_flag l true flag =
            ap (entries_of live places)
            (ap (set copied i) (flag ∙ get_or_default copied i false true (omega (arith, l, is.flags))) ∙ set-get_or copied i true)
            ∙ not_noted i l flag

        past : length places ≤ i → entries_of live places (set copied i true) ≡ noted_side (slice_get all i) all
        past l =
            ap (entries_of live places) (set_past copied i true (omega (arith, l, is.flags)))
            ∙ ap (λ o. noted_side o all) (none_there i l)

        by_place : (i ≡ length places) ⊎ ((i < length places) ⊎ (length places < i))
            → entries_of live places (set copied i true) ≡ noted_side (slice_get all i) all
        by_place (inl e) = past (omega (arith, e))
        by_place (inr (inl l)) = by_flag l (get_or copied i false) refl
        by_place (inr (inr l)) = past (omega (arith, l))

    still_entries : AreEntries live places (set copied i true)
    still_entries = record { short = is.short; many = is.many; flags = length-set copied i true ∙ is.flags }

  -- the entry after another
  module _ (is : AreEntries live places copied) (i before : ℕ) (low : 0 < i)
      (at : offset_of (slice_get all (i - 1)) ≡ Some before) where
    same_offset : (o : Option Forwarding) (f : Forwarding) → o ≡ Some f → offset_of o ≡ Some before → f.offset ≡ before
    same_offset o f a b = same_Some _ _ (sym (ap offset_of a) ∙ b)

    -- as many are set below the place after its offset
    ranks_after : i - 1 < length places → rank_of live (before + 1) ≡ i
    ranks_after l =
        let (k, bit) = bit_numbered 0 live (i - 1) (omega (arith, l, is.many)) in
        let here : k ≡ before = omega (
          arith,
          bit.offset,
          same_offset (slice_get all (i - 1)) (numbered_entry live places copied (i - 1))
              (entry_read live places copied (i - 1) l) at,
        ) in
        let one : as_one (get_or live k false) ≡ 1 = ap as_one bit.set in
        ap (λ o. rank_of live (o + 1)) (sym here) ∙ omega (arith, rank_next live k, one, bit.rank, low)

    pub offset_after : (k : ℕ) → i < length places → IsFirstFrom live (before + 1) k
        → k ≡ get_or (offsets_from 0 live) i 0
    offset_after k l first =
        let rank : rank_of live k ≡ i = rank_first live (before + 1) k first ∙ ranks_after (omega (arith, l)) in
        let ranked = ranked_offset 0 live k first.here in
        let read = ap (λ n. get_or (offsets_from 0 live) n 0) rank in omega (arith, ranked, read)

    pub none_after : i < length places → IsNextPlace live (before + 1) None → None ≡ slice_get all i
    none_after l none =
        let many = rank_all live (before + 1) none in
        absurd (omega (arith, many, ranks_after (omega (arith, l)), is.many, l))

  -- what is kept of an entry
  module _ (is : AreEntries live places copied) where
    pub kept_offset : (place number i : ℕ) → IsKept live places place number → number < length places → i ≡ number + 1
        → offset_of (slice_get all (i - 1)) ≡ Some place
    kept_offset place number i kept l at =
        let there = kept l in
        let same : i - 1 ≡ number = omega (arith, at) in
        let ranked = ranked_offset 0 live place there.0 in
        let read = ap (λ n. get_or (offsets_from 0 live) n 0) there.1 in
        let here : get_or (offsets_from 0 live) number 0 ≡ place = omega (arith, ranked, read) in
        ap (λ n. offset_of (slice_get all n)) same ∙ ap offset_of (entry_read live places copied number l)
        ∙ ap Some here

    pub kept_entry : (i : ℕ) (f : Forwarding) → slice_get all i ≡ Some f → IsKept live places f.offset i
    kept_entry i f at l =
        let (k, bit) = bit_numbered 0 live i (omega (arith, l, is.many)) in
        let same : numbered_entry live places copied i ≡ f =
        same_Some _ _ (sym (entry_read live places copied i l) ∙ at) in
        let here : k ≡ f.offset = omega (arith, bit.offset, ap (λ (x : Forwarding). x.offset) same) in
        (ap (λ o. get_or live o false) (sym here) ∙ bit.set, ap (rank_of live) (sym here) ∙ bit.rank)

    pub entry_short : (i : ℕ) (f : Forwarding) → slice_get all i ≡ Some f → i < MOST_WORDS
    entry_short i f at = omega (arith, slice_get_within all i f at, entries_few live places copied is)

-- several entries are noted as copied
pub noted_all : (live : List Bool) (places : List ℕ) (copied : List Bool) (i k : ℕ) → AreEntries live places copied
    → entries_of live places (put_run i k copied) ≡ noted_run i k (entries_of live places copied)
noted_all live places copied i zero is = refl
noted_all live places copied i (suc k) is =
    noted_all live places (set copied i true) (i + 1) k (still_entries live places copied is i)
    ∙ ap (noted_run (i + 1) k) (noted_one live places copied is i)

run_length : (i k : ℕ) (copied : List Bool) → length (put_run i k copied) ≡ length copied
run_length i zero copied = refl
run_length i (suc k) copied = run_length (i + 1) k (set copied i true) ∙ length-set copied i true

pub run_entries : (live : List Bool) (places : List ℕ) (copied : List Bool) (i k : ℕ) → AreEntries live places copied
    → AreEntries live places (put_run i k copied)
run_entries live places copied i k is =
    record { short = is.short; many = is.many; flags = run_length i k copied ∙ is.flags }
