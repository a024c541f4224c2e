-- The ranges of a step's numbers that passed the general tests.
use Rattle.std.proofs.Common.{◌≡◌, ℕ, ◌<◌, ◌≤◌, ◌||◌, Bool, true, false, not, nat_le, nat_lt, nat_eq, length, refl}
use Rattle.std.proofs.Common.{arith}
use Rattle.std.specs.Prelude.{Result, Ok, Err, if◌then◌else◌}
use Rattle.std.proofs.lemmas.Bool.{or_parts, ltb-false}
use Rattle.model.specs.declared.steps.Refusal.{Refusal}
use Rattle.model.specs.declared.steps.Step.{Step}
use Rattle.model.specs.declared.steps.Step.TheVariants as steps
use Rattle.model.specs.States.{HeapState}
use Rattle.model.specs.Outcome.{has_bad_index, is_for_workers, thread_gate, worker_gate, Passes, WorkerPasses}

-- if a sequence of tests passes, its first test does, and so do the others
past : (b : Bool) (e : Refusal) (rest : Result Unit Refusal) → (if b then Err e else rest) ≡ Ok tt
    → (b ≡ false) × (rest ≡ Ok tt)
past false e rest h = (refl, h)
past true e rest h = absurd (cc)

thread_index : (h : HeapState) (t : ℕ) (s : Step) → Passes h t s → has_bad_index h s ≡ false
unfolding thread_gate
thread_index h t s g =
    (past (has_bad_index h s) _ _ (past (nat_le (length h.threads) t || is_for_workers s) _ _ g).1).0

-- no number of a worker's step is bad
pub worker_index : (h : HeapState) (w : ℕ) (s : Step) → WorkerPasses h w s → has_bad_index h s ≡ false
unfolding worker_gate
worker_index h w s g =
    (past (has_bad_index h s) _ _ (past (nat_le (length h.workers) w || not (is_for_workers s)) _ _ g).1).0

-- a buffer has at least one word
pub take_low : (h : HeapState) (t n : ℕ) → Passes h t (steps.Take n) → 0 < n
take_low h t n g = positive n (or_parts (nat_eq n 0) (nat_lt h.store.words n) (thread_index h t (steps.Take n) g)).0
  where
    positive : (n : ℕ) → nat_eq n 0 ≡ false → 0 < n
    positive n e = grind arith

-- it has no more words than a page
pub take_high : (h : HeapState) (t n : ℕ) → Passes h t (steps.Take n) → n ≤ h.store.words
take_high h t n g = ltb-false h.store.words n
    (or_parts (nat_eq n 0) (nat_lt h.store.words n) (thread_index h t (steps.Take n) g)).1
