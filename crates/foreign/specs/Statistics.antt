-- Statistics of a heap.
use Rattle.std.specs.Prelude.{◌≡◌, ℕ, zero, suc, ◌+◌, min, List, length, Option, Some, None, slice_get}
use Rattle.model.specs.declared.records.Tally.{Tally}
use Rattle.model.specs.States.{ThreadState}
use Rattle.model.specs.Tallies.{blank_tally, most_counted}
use Rattle.collecting.specs.declared.counting.Counters.{Counters}
use Rattle.collecting.specs.Targets.{in_use}
use Rattle.foreign.specs.declared.held.Held.{Held}
use Rattle.foreign.specs.declared.statistics.StatisticsOfC.{StatisticsOfC}
use Rattle.foreign.specs.Codes.{NO_HEAP}

-- the sum of two counts, up to the greatest number that is counted to
abbrev pub both : ℕ → ℕ → ℕ
both a b = min (a + b) most_counted

-- the sum of two threads' counters
abbrev pub sum_of : Tally → Tally → Tally
sum_of x y = record {
  loads = both x.loads y.loads;
  gc = both x.gc y.gc;
  nmt = both x.nmt y.nmt;
  healed = both x.healed y.healed;
  changed = both x.changed y.changed;
}

-- the sum with the counters of a thread that may be missing
abbrev pub add_to : Tally → Option ThreadState → Tally
add_to y None = y
add_to y (Some t) = sum_of y t.tally

-- the sum of the counters of the first k threads
abbrev pub summed_to : List ThreadState → ℕ → Tally
summed_to ts zero = blank_tally
summed_to ts (suc k) = add_to (summed_to ts k) (slice_get ts k)

-- the sum of the counters of all threads
abbrev pub summed : List ThreadState → Tally
summed ts = summed_to ts (length ts)

-- the counters alongside the heap
abbrev pub AreCounters : Counters → StatisticsOfC → Type 0
AreCounters c s =
    (s.live ≡ c.live) × (s.live_words ≡ c.live_words) × (s.copied ≡ c.copied)
    × (s.by_calls ≡ c.by_calls) × (s.by_policy ≡ c.by_policy) × (s.by_room ≡ c.by_room)
    × (s.ended ≡ c.ended) × (s.by_parts ≡ c.by_parts) × (s.parts ≡ c.parts)
    × (s.ended_in_parts ≡ c.ended_in_parts) × (s.emptied ≡ c.emptied) × (s.most_used ≡ c.most_frames)

-- the barrier counters of all threads
abbrev pub AreBarriers : Tally → StatisticsOfC → Type 0
AreBarriers y s =
    (s.loads ≡ y.loads) × (s.moved ≡ y.gc) × (s.marked ≡ y.nmt) × (s.healed ≡ y.healed) × (s.changed ≡ y.changed)

-- the statistics of a handle's contents
abbrev pub AreOf : Held → StatisticsOfC → Type 0
AreOf h s =
    (s.births ≡ h.heap.births) × (s.used ≡ in_use h.heap) × AreCounters h.counters s
    × AreBarriers (summed h.heap.threads) s

-- C gets the statistics if there is a heap; else nothing is written
abbrev pub Told : Option Held → ℕ → StatisticsOfC → StatisticsOfC → Type 0
Told None code old new = (code ≡ NO_HEAP) × (new ≡ old)
Told (Some h) code old new = (code ≡ 0) × AreOf h new
