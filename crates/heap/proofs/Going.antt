-- Runs of entries with one target.
use Rattle.std.proofs.Common.{◌≡◌, ℕ, ◌+◌, ◌/◌, ◌≤◌, ◌<◌, Bool, true, false, List, length, nat_lt}
use Rattle.std.proofs.Common.{Option, Some, refl, sym, ◌∙◌, ap, arith}
use Rattle.std.specs.List.{slice_get}
use Rattle.std.proofs.lemmas.Bool.{eqb-true, true≢false}
use Rattle.std.proofs.lemmas.Bool.Decides.{nat_tests}
use Rattle.model.specs.declared.records.Forwarding.{Forwarding}
use Rattle.model.proofs.Lists.{get_within}
use Rattle.page_rows.specs.Runs.{GoTo}
use Rattle.heap.specs.Runs.{goes_to}

-- an entry that exists goes to the target
goes_there : (words target : ℕ) (o : Option Forwarding) (f : Forwarding) → goes_to words target o ≡ true → o ≡ Some f
    → f.to / words ≡ target
goes_there words target o f e at = eqb-true (f.to / words) target (sym (ap (goes_to words target) at) ∙ e)

-- no entry
pub run_none : (words target e : ℕ) (side : List Forwarding) → GoTo words target side e 0
run_none words target e side i f less at = absurd (omega (arith, less))

-- one entry more
pub run_more : (words target e k : ℕ) (side : List Forwarding) → GoTo words target side e k
    → goes_to words target (slice_get side (e + k)) ≡ true → GoTo words target side e (k + 1)
run_more words target e k side h here i f less at = by (nat_lt i k) refl
  where
    by : (b : Bool) → nat_lt i k ≡ b → f.to / words ≡ target
    by true is = h i f (grind (arith, nat_tests)) at
    by false is =
        let same : i ≡ k = grind (arith, nat_tests) in
        goes_there words target (slice_get side (e + k)) f here (ap (λ j. slice_get side (e + j)) (sym same) ∙ at)

-- an entry that goes elsewhere
pub run_stops : (words target e k n : ℕ) (side : List Forwarding) → e + n ≤ length side → k < n
    → goes_to words target (slice_get side (e + k)) ≡ false → GoTo words target side e n → ⊥
run_stops words target e k n side within less elsewhere together =
    let (f, at) = get_within side (e + k) (omega (arith, within, less)) in
    let there = together k f less at in
    true≢false (sym (grind (arith, nat_tests, there)) ∙ (ap (goes_to words target) (sym at) ∙ elsewhere))
