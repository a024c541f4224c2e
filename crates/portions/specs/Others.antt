-- Threads without a portion stay as they are.
use Rattle.std.specs.Prelude.{◌≡◌, ◌≢◌, ℕ, slice_get}
use Rattle.model.specs.Plain.{PlainHeap}
use Rattle.model.specs.States.{HeapState}
use Rattle.refinement.specs.Standing.{Holds}

-- each thread but t is in reference model q as in p: its registers are the same
abbrev pub SameOthers : ℕ → PlainHeap → PlainHeap → Type 0
SameOthers t p q = (u : ℕ) → u ≢ t → slice_get q.threads u ≡ slice_get p.threads u

-- if heap h represents a reference model, g represents one in which each thread but t is as it was
pub record KeepsOthers (t : ℕ) (h g : HeapState) : Type 0 where
  pub kept : (p p0 : PlainHeap) → Holds h p p0 → (q q0 : PlainHeap) × Holds g q q0 × SameOthers t p q
