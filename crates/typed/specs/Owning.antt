-- The changes of a call to a heap with its policy, its increment and its counters.
use Rattle.std.specs.Prelude.{◌≡◌, ◌==◌, ◌/◌, ℕ, if◌then◌else◌, Result, Ok, Err}
use Rattle.model.specs.declared.config.Config.{Config}
use Rattle.model.specs.States.{HeapState}
use Rattle.heap.specs.declared.fault.NewFault.{NewFault}
use Rattle.managed.specs.Managing.{MakesHeap}
use Rattle.collecting.specs.declared.policy.Policy.{Policy}
use Rattle.collecting.specs.declared.policy.PolicyFault.{PolicyFault}
use Rattle.collecting.specs.Counting.{no_counts}
use Rattle.collecting.specs.Stages.{first_parts}
use Rattle.typed.specs.declared.owning.TypedHeap.{TypedHeap}

-- the usual policy of a heap with this number of words in a page and of frames
abbrev pub usual_policy : ℕ → ℕ → Policy
usual_policy words frames =
    record { words = words; free = if frames / 8 == 0 then 1 else frames / 8; percent = 75 }

-- how many objects a part of a collection may scan, if nothing else was set
abbrev pub usual_budget : ℕ
usual_budget = 400

-- a heap with the usual policy and budget, before its first collection, with all counters at 0
abbrev pub with_usual : HeapState → TypedHeap
with_usual h = record {
  heap = h;
  policy = usual_policy h.config.words h.config.frames;
  budget = usual_budget;
  parts = first_parts;
  counters = no_counts;
}

-- making one returns the first heap of a configuration with the usual policy
abbrev pub MakesTyped : Config → Result TypedHeap NewFault → Type 0
MakesTyped c (Ok h) = MakesHeap c (Ok h.heap) × (h ≡ with_usual h.heap)
MakesTyped c (Err f) = MakesHeap c (Err f)

-- the heap alone may have changed
abbrev pub ChangesHeap : TypedHeap → TypedHeap → Type 0
ChangesHeap h g = g ≡ record h { heap = g.heap }

-- the heap and the counters alone may have changed
abbrev pub ChangesCounted : TypedHeap → TypedHeap → Type 0
ChangesCounted h g = g ≡ record h { heap = g.heap; counters = g.counters }

-- the heap, the increment and the counters alone may have changed
abbrev pub ChangesPaced : TypedHeap → TypedHeap → Type 0
ChangesPaced h g = g ≡ record h { heap = g.heap; parts = g.parts; counters = g.counters }

-- the policy was set; or it has this fault, and nothing changed
abbrev pub SetsPolicy : Policy → TypedHeap → Result Unit PolicyFault → TypedHeap → Type 0
SetsPolicy p h (Ok u) g = g ≡ record h { policy = p }
SetsPolicy p h (Err f) g = g ≡ h
