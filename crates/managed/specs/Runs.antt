-- Accepted steps, one after another, from one heap to another.
use Rattle.std.specs.Prelude.{◌≡◌, List, [], ◌∷◌, Ok}
use Rattle.model.specs.Outcome.{outcome}
use Rattle.model.specs.States.{HeapState}
use Rattle.refinement.specs.Standing.{Holds}
use Rattle.entries.specs.declared.entry.Entry.{Entry}
use Rattle.cycle.specs.Replays.{Replayed, AnswersAre, after_entries}

-- steps that are accepted with these answers lead from heap h to g
abbrev pub Leads : HeapState → List Entry → HeapState → Type 0
Leads h [] g = g ≡ h
Leads h (e ∷ es) g = (m : HeapState) × (outcome h e.actor e.step ≡ Ok (m, e.answer)) × Leads m es g

-- steps from a heap that represents a reference model preserve that: the heap g after them represents the reference
-- model after them, and each answer is the model's at its place
pub record StandsAfter (h : HeapState) (r : Replayed) (es : List Entry) (g : HeapState) : Type 0 where
  pub config : g.config ≡ h.config
  pub holds : Holds g (after_entries h.config.layouts r es).now (after_entries h.config.layouts r es).at_mark
  pub answers : AnswersAre h.config.layouts r es

-- accepted steps lead from heap h to g, and preserve what heap h represents
pub record Runs (h : HeapState) (es : List Entry) (g : HeapState) : Type 0 where
  pub steps : Leads h es g
  pub stands : (r : Replayed) → Holds h r.now r.at_mark → StandsAfter h r es g
