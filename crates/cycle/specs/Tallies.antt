-- The barrier counters of threads that a history makes.
use Rattle.std.specs.Prelude.{◌≡◌, ℕ, ◌==◌, ◌&&◌, Bool, true, false, List, count_by, Option, Some, None}
use Rattle.model.specs.declared.records.Counter.{Counter}
use Rattle.model.specs.declared.records.Counter.TheVariants as counters
use Rattle.model.specs.declared.records.Tally.{Tally}
use Rattle.model.specs.declared.steps.Actor.{Actor}
use Rattle.model.specs.declared.steps.Actor.TheVariants.{Thread, Worker}
use Rattle.model.specs.States.{HeapState}
use Rattle.model.specs.Tallies.{counter_of}
use Rattle.model.specs.Loads.{tally_of_thread}
use Rattle.entries.specs.declared.entry.Entry.{Entry}

-- the actor is thread t
abbrev pub is_thread : ℕ → Actor → Bool
is_thread t (Thread u) = u == t
is_thread t (Worker w) = false

-- both are the same counter
abbrev pub same_counter : Counter → Counter → Bool
same_counter counters.Loads counters.Loads = true
same_counter counters.Gc counters.Gc = true
same_counter counters.Nmt counters.Nmt = true
same_counter counters.Healed counters.Healed = true
same_counter counters.Changed counters.Changed = true
same_counter _ _ = false

-- this counter is incremented
abbrev pub is_raised : Option Counter → Counter → Bool
is_raised None c = false
is_raised (Some d) c = same_counter d c

-- an entry is of thread t, and increments this counter
abbrev pub raises : ℕ → Counter → Entry → Bool
raises t c e = is_thread t e.actor && is_raised (counter_of e.step e.answer) c

-- the barrier counters of thread t: how many of its entries increment each of them
unfoldable pub tally_of : ℕ → List Entry → Tally
tally_of t es = record {
  loads = count_by (raises t counters.Loads) es;
  gc = count_by (raises t counters.Gc) es;
  nmt = count_by (raises t counters.Nmt) es;
  healed = count_by (raises t counters.Healed) es;
  changed = count_by (raises t counters.Changed) es;
}

-- the barrier counters of each thread of a heap are those that these entries make
abbrev pub TalliesAre : HeapState → List Entry → Type 0
TalliesAre h es = (t : ℕ) (y : Tally) → tally_of_thread h t ≡ Some y → y ≡ tally_of t es
