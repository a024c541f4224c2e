-- The ranges of the numbers of a worker's step that passed the tests of all steps.
use Rattle.std.proofs.Common.{ℕ, ◌≤◌, nat_lt, nat_eq}
use Rattle.std.proofs.lemmas.Bool.{or_parts, ltb-false}
use Rattle.model.specs.declared.steps.Step.TheVariants as steps
use Rattle.model.specs.States.{HeapState}
use Rattle.model.specs.Outcome.{no_page, WorkerPasses}
use Rattle.model.proofs.Passing.{worker_index}

-- the page of an object that is to be picked has a number in range
pub pick_high : (h : HeapState) (w page offset : ℕ) → WorkerPasses h w (steps.Pick page offset)
    → page ≤ h.store.count
unfolding no_page
pick_high h w page offset g = ltb-false h.store.count page
    (or_parts (nat_eq page 0) (nat_lt h.store.count page) (worker_index h w (steps.Pick page offset) g)).1
