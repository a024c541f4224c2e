-- Two registers are compared by the numbers of their words.
use Rattle.std.proofs.Common.{◌≡◌, ◌<◌, ℕ, nat_eq, false, Some, None, refl, ap, arith}
use Rattle.std.specs.Prelude.{Ok}
use Rattle.std.proofs.lemmas.Bool.Decides.{nat_tests}
use Rattle.refword.specs.Words.{IsWord, address_in, number_in}
use Rattle.model.specs.declared.steps.Answer.TheVariants as answers
use Rattle.model.specs.declared.steps.Step.TheVariants as steps
use Rattle.model.specs.Outcome.{outcome, Passes, has_bad_index}
use Rattle.model.specs.Registers.{same_address, same_outcome}
use Rattle.model.specs.States.{Reference, HeapState}
use Rattle.fast_paths.specs.AtOnce.{GivesSame, HoldsAtOnce, SourceAtOnce}

same_numbers : (v w : Reference) (a b : ℕ) → a ≡ number_in v → b ≡ number_in w
    → IsWord v → IsWord w
    → same_address (address_in v) (address_in w) ≡ nat_eq a b
same_numbers None None a b e f k l = rw (e, f) refl
same_numbers None (Some y) a b e f k l = unequal a b e (omega (arith, f, l.above))
  where
    unequal : (a b : ℕ) → a ≡ 0 → 0 < b → false ≡ nat_eq a b
    unequal a b e l = grind (arith, nat_tests)
same_numbers (Some x) None a b e f k l = unequal a b (omega (arith, e, k.above)) f
  where
    unequal : (a b : ℕ) → 0 < a → b ≡ 0 → false ≡ nat_eq a b
    unequal a b l e = grind (arith, nat_tests)
same_numbers (Some x) (Some y) a b e f k l = rw (e, f) refl

pub compared : (h : HeapState) (t left right a b : ℕ) (u v w : Reference) → HoldsAtOnce h t left u
    → SourceAtOnce h t left v → SourceAtOnce h t right w → a ≡ number_in v → b ≡ number_in w → IsWord v → IsWord w
    → GivesSame h t left right (nat_eq a b)
unfolding outcome same_outcome
compared h t left right a b u v w held l r e f is it =
    let good : has_bad_index h (steps.Same left right) ≡ false = rw (l.there, r.there) refl in
    let gate : Passes h t (steps.Same left right) = held.passes (steps.Same left right) refl good in
    rw (gate, l.usable, r.usable) (ap (λ y. Ok (h, answers.Truth y)) (same_numbers v w a b e f is it))
