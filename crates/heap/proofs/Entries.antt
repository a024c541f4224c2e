-- Entries of forwarding tables that meet their conditions.
use Rattle.std.proofs.Common.{◌≡◌, ℕ, zero, suc, ◌+◌, ◌*◌, ◌≤◌, ◌<◌, ◌&&◌, Bool, true, false, cond, List, [], ◌∷◌}
use Rattle.std.proofs.Common.{length, drop}
use Rattle.std.proofs.Common.{Some, None, nat_le, nat_lt, refl, sym, ◌∙◌, ap, subst, arith}
use Rattle.std.specs.Prelude.{MatchBool}
use Rattle.std.specs.List.{slice_get}
use Rattle.std.proofs.lemmas.Bool.{and_parts, leb-true, ltb-true, true≢false}
use Rattle.std.proofs.lemmas.Bool.Decides.{nat_tests}
use Rattle.std.proofs.lemmas.Option.{same_Some}
use Rattle.model.specs.declared.config.Config.{Config}
use Rattle.model.specs.declared.records.Forwarding.{Forwarding}
use Rattle.model.specs.Holding.{AreRising, GoesToPage}
use Rattle.model.specs.Owning.{Each}
use Rattle.model.specs.States.{HeapState}
use Rattle.heap.specs.Entries.{IsSideFor, are_entries, is_entry, is_fine, next_low}

-- one entry meets its conditions if the test says so
one : (c : Config) (low : ℕ) (f : Forwarding) → is_fine c low f ≡ true
    → (low ≤ f.offset) × (f.offset < c.words) × (f.to < (c.pages + 1) * c.words)
one c low f e =
    let first = and_parts (nat_lt f.offset c.words) (is_entry c low f) e in
    let second = and_parts (nat_le low f.offset) (nat_lt f.to ((c.pages + 1) * c.words)) first.1 in (
      leb-true low f.offset second.0,
      ltb-true f.offset c.words first.0,
      ltb-true f.to ((c.pages + 1) * c.words)
          second.1,
    )

-- the test of one entry that meets its conditions
one_is : (c : Config) (low : ℕ) (f : Forwarding) → low ≤ f.offset → f.offset < c.words → f.to < (c.pages + 1) * c.words
    → is_fine c low f ≡ true
one_is c low f a b d = grind (arith, nat_tests)

rise : (c : Config) (low : ℕ) (side : List Forwarding) → are_entries c low side ≡ true → AreRising c.words low side
rise c low [] e = tt
rise c low (f ∷ fs) e =
    let parts = and_parts (is_fine c low f) (are_entries c (f.offset + 1) fs) e in
    let here = one c low f parts.0 in
    (here.0, here.1, rise c (f.offset + 1) fs parts.1)

go : (c : Config) (low : ℕ) (side : List Forwarding) → are_entries c low side ≡ true → Each side (GoesToPage c)
go c low [] e i x at = absurd (cc)
go c low (f ∷ fs) e zero x at =
    let parts = and_parts (is_fine c low f) (are_entries c (f.offset + 1) fs) e in
    subst (GoesToPage c) (same_Some f x at) (one c low f parts.0).2
go c low (f ∷ fs) e (suc i) x at =
    let parts = and_parts (is_fine c low f) (are_entries c (f.offset + 1) fs) e in
    go c (f.offset + 1) fs parts.1 i x at

all_is : (c : Config) (low : ℕ) (side : List Forwarding) → AreRising c.words low side → Each side (GoesToPage c)
    → are_entries c low side ≡ true
all_is c low [] rising places = refl
all_is c low (f ∷ fs) rising places =
    ap (λ b. b && are_entries c (f.offset + 1) fs) (one_is c low f rising.0 rising.1 (places zero f refl))
    ∙ all_is c (f.offset + 1) fs rising.2 (λ i x at. places (suc i) x at)

-- the test is true exactly for the forwarding tables that a heap may have
pub side_told : (h : HeapState) (side : List Forwarding) (b : Bool) → b ≡ are_entries h.config 0 side
    → MatchBool b (IsSideFor h side) (¬ IsSideFor h side)
side_told h side true e = (rise h.config 0 side (sym e), go h.config 0 side (sym e))
side_told h side false e = λ fits. true≢false (sym (all_is h.config 0 side fits.0 fits.1) ∙ sym e)

more : (c : Config) (low next i : ℕ) (side : List Forwarding)
    → Some next ≡ next_low c low (slice_get side i)
    → are_entries c low (drop i side) ≡ are_entries c next (drop (suc i) side)
more c low next zero [] e = absurd (cc)
more c low next (suc i) [] e = absurd (cc)
more c low next (suc i) (f ∷ fs) e = more c low next i fs e
more c low next zero (f ∷ fs) e = by (is_fine c low f) refl e
  where
    by : (b : Bool) → is_fine c low f ≡ b → Some next ≡ cond b (Some (f.offset + 1)) None
        → (is_fine c low f && are_entries c (f.offset + 1) fs) ≡ are_entries c next fs
    by true is same = ap (λ t. t && are_entries c (f.offset + 1) fs) is
        ∙ ap (λ n. are_entries c n fs) (sym (same_Some next (f.offset + 1) same))
    by false is same = absurd (cc)

-- one entry more
pub entries_more : (c : Config) (low next i : ℕ) (side : List Forwarding)
    → Some next ≡ next_low c low (slice_get side i)
    → are_entries c low (drop i side) ≡ are_entries c next (drop (i + 1) side)
entries_more c low next i side e =
    let same : suc i ≡ i + 1 = omega arith in
    more c low next i side e ∙ ap (λ n. are_entries c next (drop n side)) same

-- an entry that doesn't meet its conditions
pub entries_stop : (c : Config) (low i : ℕ) (side : List Forwarding) → i < length side
    → None ≡ next_low c low (slice_get side i) → are_entries c low (drop i side) ≡ false
entries_stop c low i [] within e = absurd (omega (arith, within))
entries_stop c low (suc i) (f ∷ fs) within e = entries_stop c low i fs (omega (arith, within)) e
entries_stop c low zero (f ∷ fs) within e = by (is_fine c low f) refl e
  where
    by : (b : Bool) → is_fine c low f ≡ b → None ≡ cond b (Some (f.offset + 1)) None
        → (is_fine c low f && are_entries c (f.offset + 1) fs) ≡ false
    by true is same = absurd (cc)
    by false is same = ap (λ t. t && are_entries c (f.offset + 1) fs) is
