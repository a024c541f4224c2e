-- Entries whose flags change.
use Rattle.std.proofs.Common.{◌≡◌, ◌≢◌, ◌⊎◌, inl, inr, ℕ, zero, suc, ◌+◌, ◌<◌, ◌≤◌, Bool, true, false, not, cond, List}
use Rattle.std.proofs.Common.{[], ◌∷◌, ◌++◌, take}
use Rattle.std.proofs.Common.{length, map, set, get_or, count_by, Some, None, refl, sym, ◌∙◌, ap}
use Rattle.std.proofs.Common.{arith}
use Rattle.std.specs.List.{slice_get}
use Rattle.std.specs.Prelude.{option_map, nat_eq, ◌==◌}
use Rattle.std.proofs.lemmas.Bool.Decides.{nat_tests}
use Rattle.std.proofs.Math.ListN.{length-set}
use Rattle.std.proofs.lemmas.List.{get_or-set_same, get_or-set_other, length-map, take_more, take_all}
use Rattle.std.proofs.lemmas.List.Sums.{sum_by-cons}
use Rattle.std.proofs.lemmas.Option.{slice_get-get_or, slice_get-map, slice_get_within, get_or_from_slice_get}
use Rattle.std.proofs.lemmas.Bool.{cases_eq}
use Rattle.model.specs.declared.limits.TheConstants.{MOST_WORDS}
use Rattle.model.specs.declared.records.Forwarding.{Forwarding}
use Rattle.model.specs.Marks.{entry_of}
use Rattle.model.specs.Cycles.{is_uncopied}
use Rattle.model.specs.Moves.{set_copied_of}
use Rattle.model.specs.Plans.{offsets_from}
use Rattle.model.proofs.Lists.{same_lists, get_set_same, get_set_other}
use Rattle.markbits.specs.Ranks.{rank_of}
use Rattle.forward.specs.Counts.{uncopied_in}
use Rattle.forward.specs.Ranked.{numbered_entry, entries_of, AreEntries}
use Rattle.forward.proofs.Copies.{one_noted}
use Rattle.forward.proofs.Ranked.{entry_read, entries_many, entries_rise, rank_within, ranked_offset, entry_ranked}

-- a list that differs from another in one element
changed_one : (v w : List Forwarding) (i : ℕ) (y x : Forwarding) → length w ≡ length v → slice_get v i ≡ Some y
    → slice_get w i ≡ Some x → ((j : ℕ) → j < length v → j ≢ i → slice_get w j ≡ slice_get v j) → w ≡ set v i x
changed_one v w i y x many there here others =
    same_lists w (set v i x) (many ∙ sym (length-set v i x)) (λ j l. by_place j l (cases_eq j i))
  where
    by_place : (j : ℕ) → j < length w → (j ≡ i) ⊎ (j ≢ i) → slice_get w j ≡ slice_get (set v i x) j
    by_place j l (inl e) =
        ap (slice_get w) e ∙ here ∙ sym (get_set_same v i y x there) ∙ sym (ap (slice_get (set v i x)) e)
    by_place j l (inr e) = others j (omega (arith, l, many)) e ∙ sym (get_set_other v i j x e)

-- an entry by its parts
abbrev entry_by : ℕ → ℕ → Bool → Forwarding
entry_by offset to copied = record { offset = offset; to = to; copied = copied }

module _ (live : List Bool) (places : List ℕ) (copied : List Bool) where
  module _ (is : AreEntries live places copied) where
    -- the one of an offset is copied
    pub noted : (o : ℕ) → get_or live o false ≡ true → entries_of live places (set copied (rank_of live o) true)
        ≡ map (set_copied_of o) (entries_of live places copied)
    noted o e =
        changed_one v w r (numbered_entry live places copied r)
        (entry_by (get_or (offsets_from 0 live) r 0) (get_or places r 0) true)
        (entries_many live places (set copied r true) ∙ sym (entries_many live places copied))
        (entry_read live places copied r l)
        here others
        ∙ one_noted MOST_WORDS 0 o r v (numbered_entry live places copied r) (entries_rise live places copied is)
        (entry_read live places copied r l) (ranked_offset 0 live o e ∙ omega arith)
      where
        r : ℕ
        r = rank_of live o

        l : r < length places
        l = omega (arith, rank_within live o e, is.many)

        v : List Forwarding
        v = entries_of live places copied

        w : List Forwarding
        w = entries_of live places (set copied r true)

        here : slice_get w r ≡ Some (entry_by (get_or (offsets_from 0 live) r 0) (get_or places r 0) true)
        here = entry_read live places (set copied r true) r l
            ∙ ap (λ b. Some (entry_by (get_or (offsets_from 0 live) r 0) (get_or places r 0) b))
            (get_or-set_same copied r true false (omega (arith, l, is.flags)))

        others : (j : ℕ) → j < length v → j ≢ r → slice_get w j ≡ slice_get v j
        others j m d =
            let low : j < length places = omega (arith, m, entries_many live places copied) in
            entry_read live places (set copied r true) j low
            ∙ ap (λ b. Some (entry_by (get_or (offsets_from 0 live) j 0) (get_or places j 0) b))
            (get_or-set_other copied r j true false d) ∙ sym (entry_read live places copied j low)

    -- the flags of entries are those of the row
    flags_are : map (λ (f : Forwarding). f.copied) (entries_of live places copied) ≡ copied
    flags_are = same_lists (map (λ (f : Forwarding). f.copied) v) copied
        (length-map v (λ (f : Forwarding). f.copied) ∙ entries_many live places copied ∙ sym is.flags)
        (λ i l.
        let low : i < length places =
        omega (arith, l, length-map v (λ (f : Forwarding). f.copied), entries_many live places copied) in
        slice_get-map (λ (f : Forwarding). f.copied) v i
        ∙ ap (option_map (λ (f : Forwarding). f.copied)) (entry_read live places copied i low)
        ∙ sym (slice_get-get_or copied i false (omega (arith, low, is.flags))))
      where
        v : List Forwarding
        v = entries_of live places copied

    -- those that have still to be copied, and those that are, are all
    pub left_of : uncopied_in (entries_of live places copied) + count_by (λ b. b) copied ≡ length places
    left_of = ap (λ cs. uncopied_in (entries_of live places copied) + count_by (λ b. b) cs) (sym flags_are)
        ∙ counted (entries_of live places copied) ∙ entries_many live places copied
      where
        as_number : Bool → ℕ
        as_number b = cond b 1 0

        one_each : (b : Bool) → as_number (not b) + as_number b ≡ 1
        one_each true = refl
        one_each false = refl

        counted : (fs : List Forwarding)
            → uncopied_in fs + count_by (λ b. b) (map (λ (f : Forwarding). f.copied) fs) ≡ length fs
        counted [] = refl
        counted (f ∷ fs) = omega (
          arith,
          sum_by-cons (λ (x : Forwarding). as_number (is_uncopied x)) f fs,
          sum_by-cons as_number f.copied (map (λ (x : Forwarding). x.copied) fs),
          one_each f.copied,
          counted fs,
        )

    -- an entry that is made of its parts
    pub entry_is : (i offset to : ℕ) (flag : Bool) → i < length places → offset ≡ get_or (offsets_from 0 live) i 0
        → to ≡ get_or places i 0 → flag ≡ get_or copied i false
        → Some (entry_by offset to flag) ≡ slice_get (entries_of live places copied) i
    entry_is i offset to flag l a b c =
        (λ k. Some (entry_by (a k) (b k) (c k))) ∙ sym (entry_read live places copied i l)

    -- the same, found by its offset
    pub found_is : (o i to : ℕ) (flag : Bool) → get_or live o false ≡ true → i ≡ rank_of live o
        → to ≡ get_or places i 0 → flag ≡ get_or copied i false
        → Some (entry_by o to flag) ≡ entry_of (entries_of live places copied) o
    found_is o i to flag e r b c =
        let a : o ≡ get_or (offsets_from 0 live) (rank_of live o) 0 = omega (arith, ranked_offset 0 live o e) in
        let b2 : to ≡ get_or places (rank_of live o) 0 = b ∙ ap (λ n. get_or places n 0) r in
        let c2 : flag ≡ get_or copied (rank_of live o) false = c ∙ ap (λ n. get_or copied n false) r in
        (λ k. Some (entry_by (a k) (b2 k) (c2 k))) ∙ sym (entry_ranked live places copied is o e)

-- there is no entry past the last
pub past_all : (fs : List Forwarding) (i : ℕ) → length fs ≤ i → None ≡ slice_get fs i
past_all [] i l = refl
past_all (f ∷ fs) zero l = absurd (omega (arith, l))
past_all (f ∷ fs) (suc i) l = past_all fs i (omega (arith, l))

pub same_test : (n c u : ℕ) → u + c ≡ n → nat_eq n c ≡ (u == 0)
same_test n c u e = grind (arith, nat_tests)

-- one entry more is taken
pub taken_more : (fs done new : List Forwarding) (i : ℕ) (f : Forwarding) → slice_get fs i ≡ Some f → done ≡ take i fs
    → new ≡ done ++ f ∷ [] → new ≡ take (i + 1) fs
taken_more fs done new i f at so_far put =
    put ∙ ap (λ xs. xs ++ f ∷ []) so_far
    ∙ ap (λ x. take i fs ++ x ∷ []) (sym (get_or_from_slice_get fs i f f at))
    ∙ sym (take_more fs i f (slice_get_within fs i f at))

pub taken_all : (fs done : List Forwarding) (i : ℕ) → length fs ≤ i → done ≡ take i fs → done ≡ fs
taken_all fs done i l e = e ∙ take_all i fs l
