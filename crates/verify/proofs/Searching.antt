-- Binary search in a forwarding table whose offsets rise, and the test whether they do.
use Rattle.std.proofs.Common.{◌≡◌, ◌≢◌, ◌⊎◌, inl, inr, ℕ, ◌+◌, ◌-◌, ◌<◌, ◌≤◌, false, cond, eqb}
use Rattle.std.proofs.Common.{List, [], ◌∷◌, length, drop, get_or, Some, None}
use Rattle.std.proofs.Common.{refl, sym, ap, ◌∙◌, subst, arith}
use Rattle.std.specs.List.{find, slice_get, HoldsAt}
use Rattle.std.specs.Option.{option_and_then}
use Rattle.std.specs.List.Sorted.{IsNonDecreasingBy, IsPartitionPoint}
use Rattle.std.specs.Ordering.{nat_cmp, ordering_index}
use Rattle.std.specs.declared.cmp.Ordering.TheVariants.{Equal, Less, Greater}
use Rattle.std.proofs.lemmas.Cmp.{ranked}
use Rattle.std.proofs.lemmas.List.Sorted.{IsNonDecreasingBy-from_default}
use Rattle.std.proofs.lemmas.Option.{slice_get-get_or, slice_get_within, get_or_from_slice_get}
use Rattle.std.proofs.lemmas.Bool.Decides.{nat_tests}
use Rattle.std.proofs.lemmas.Bool.{cases_lt}
use Rattle.model.specs.declared.records.Forwarding.{Forwarding}
use Rattle.model.specs.Holding.{AreRising}
use Rattle.model.specs.Marks.{entry_of}
use Rattle.forward.proofs.Entries.{ascends, entry_here, entry_none}
use Rattle.verify.specs.Images.{copy_in, copy_of}
use Rattle.verify.proofs.Tabling.{drop_more}

abbrev none : Forwarding
none = record { offset = 0; to = 0; copied = false }

same_entry : (fs : List Forwarding) (o : ℕ) → find (λ f. eqb f.offset o) fs ≡ entry_of fs o
same_entry [] o = refl
same_entry (f ∷ fs) o = ap (λ e. cond (eqb f.offset o) (Some f) e) (same_entry fs o)

module _ (words : ℕ) (side : List Forwarding) (rising : AreRising words 0 side) (o : ℕ) where
  abbrev offset_at : ℕ → ℕ
  offset_at i = (get_or side i none).offset

  ordered : (i j : ℕ) → i < j → j < length side → offset_at i < offset_at j
  ordered i j l b =
      ascends words 0 side i j (get_or side i none) (get_or side j none) rising l
      (slice_get-get_or side i none (omega (arith, l, b))) (slice_get-get_or side j none b)

  comparisons_rise : IsNonDecreasingBy (λ (f : Forwarding). ordering_index (nat_cmp f.offset o)) side
  comparisons_rise =
      IsNonDecreasingBy-from_default (λ (f : Forwarding). ordering_index (nat_cmp f.offset o)) side none (λ i j le b.
      let rise : offset_at i ≤ offset_at j = grind (arith, ordered i j, λ (same : i ≡ j). ap offset_at same) in
      grind (arith, nat_tests))

  -- the entry of an index has the offset
  pub found : (i : ℕ) (f : Forwarding) → i < length side
      → HoldsAt (λ (g : Forwarding). nat_cmp g.offset o ≡ Equal) side i
      → f ≡ get_or side i f → copy_of f ≡ copy_in side o
  found i f b equal is =
      let here : slice_get side i ≡ Some f = slice_get-get_or side i f b ∙ ap Some (sym is) in
      let at : f.offset ≡ o =
      ap (λ (g : Forwarding). g.offset) is ∙ ranked (get_or side i f).offset o Equal (sym (equal f)) in
      sym (ap (option_and_then copy_of) (same_entry side o ∙ entry_here words 0 side o i f rising here at))

  -- no entry has it
  pub absent : (at : ℕ)
      → (IsNonDecreasingBy (λ (f : Forwarding). ordering_index (nat_cmp f.offset o)) side
      → IsPartitionPoint (λ (g : Forwarding). nat_cmp g.offset o ≡ Less)
      (λ (g : Forwarding). nat_cmp g.offset o ≡ Greater) side at)
      → None ≡ copy_in side o
  absent at parted = sym (ap (option_and_then copy_of) (same_entry side o ∙ entry_none side o other))
    where
      other : (i : ℕ) (f : Forwarding) → slice_get side i ≡ Some f → f.offset ≢ o
      other i f e same = by_place (cases_lt i at)
        where
          b : i < length side
          b = slice_get_within side i f e

          here : offset_at i ≡ o
          here = ap (λ (g : Forwarding). g.offset) (get_or_from_slice_get side i f none e) ∙ same

          by_place : (i < at) ⊎ (at ≤ i) → ⊥
          by_place (inl l) =
              let less : offset_at i < o =
              ranked (offset_at i) o Less (sym ((parted comparisons_rise).0 i none (omega arith) l)) in
              omega (arith, less, here)
          by_place (inr l) =
              let more : o < offset_at i =
              ranked (offset_at i) o Greater (sym ((parted comparisons_rise).1 i none l b)) in
              omega (arith, more, here)

-- the last entries of a forwarding table rise, and are above a bound
pub record IsRisingFrom (words : ℕ) (side : List Forwarding) (k above : ℕ) : Type 0 where
  pub within : above ≤ words
  pub rises : (low : ℕ) → low ≤ above → AreRising words low (drop (length side - k) side)

-- the entry before those that are known to rise
pub one_more : (words : ℕ) (side : List Forwarding) (k above : ℕ) (f : Forwarding) → k < length side
    → f ≡ get_or side (length side - 1 - k) f → IsRisingFrom words side k above → f.offset < above
    → IsRisingFrom words side (k + 1) f.offset
one_more words side k above f l e h b = record {
  within = omega (arith, h.within, b);
  rises = λ low le.
      subst (AreRising words low) (sym (drop_more side k f l e))
      (le, omega (arith, h.within, b), h.rises (f.offset + 1) (omega (arith, b)));
}
