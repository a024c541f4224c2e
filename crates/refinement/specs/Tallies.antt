-- The effect of accepted steps on the barrier counters of threads.
use Rattle.std.specs.Prelude.{◌≡◌, ◌≢◌, ℕ, Option, Some, None, option_map, Ok}
use Rattle.model.specs.declared.records.Counter.{Counter}
use Rattle.model.specs.declared.records.Tally.{Tally}
use Rattle.model.specs.declared.steps.Actor.{Actor}
use Rattle.model.specs.declared.steps.Actor.TheVariants.{Thread, Worker}
use Rattle.model.specs.declared.steps.Answer.{Answer}
use Rattle.model.specs.declared.steps.Step.{Step}
use Rattle.model.specs.States.{HeapState}
use Rattle.model.specs.Loads.{tally_of_thread}
use Rattle.model.specs.Tallies.{counted, counter_of}
use Rattle.model.specs.Outcome.{outcome}

-- barrier counters after one, if there is one, was incremented
abbrev pub counted_if : Option Counter → Tally → Tally
counted_if None y = y
counted_if (Some c) y = counted c y

-- all barrier counters stay
abbrev pub TalliesStay : HeapState → HeapState → Type 0
TalliesStay h g = (t : ℕ) → tally_of_thread g t ≡ tally_of_thread h t

-- one of thread t's barrier counters is incremented, if any, and those of the others stay
pub record CountsOne (h : HeapState) (t : ℕ) (c : Option Counter) (g : HeapState) : Type 0 where
  pub own : tally_of_thread g t ≡ option_map (counted_if c) (tally_of_thread h t)
  pub others : (u : ℕ) → u ≢ t → tally_of_thread g u ≡ tally_of_thread h u

-- the effect of an accepted step with this answer on barrier counters, from heap h to g
abbrev pub CountsStep : HeapState → Actor → Step → Answer → HeapState → Type 0
CountsStep h (Thread t) step answer g = CountsOne h t (counter_of step answer) g
CountsStep h (Worker w) step answer g = TalliesStay h g

-- every accepted step has this effect
abbrev pub StepsCount : Type 0
StepsCount = (h : HeapState) (actor : Actor) (step : Step) (g : HeapState) (answer : Answer)
    → outcome h actor step ≡ Ok (g, answer) → CountsStep h actor step answer g
