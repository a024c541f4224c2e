-- The barrier counters of a thread.
use Rattle.std.specs.Prelude.{ℕ, ◌+◌, ◌-◌, ◌^◌, min, Option, Some, None}
use Rattle.model.specs.declared.records.Tally.{Tally}
use Rattle.model.specs.declared.records.Counter.{Counter}
use Rattle.model.specs.declared.records.Counter.TheVariants as counters
use Rattle.model.specs.declared.steps.Answer.{Answer}
use Rattle.model.specs.declared.steps.Answer.TheVariants as answers
use Rattle.model.specs.declared.steps.Step.{Step}
use Rattle.model.specs.declared.steps.Step.TheVariants as steps

-- all counters are 0
abbrev pub blank_tally : Tally
blank_tally = record { loads = 0; gc = 0; nmt = 0; healed = 0; changed = 0 }

-- the greatest value of a counter
abbrev pub most_counted : ℕ
most_counted = 2 ^ 64 - 1

-- one more, up to the greatest value
abbrev pub one_more : ℕ → ℕ
one_more n = min (n + 1) most_counted

-- the counters after one was incremented
abbrev pub counted : Counter → Tally → Tally
counted counters.Loads y = record y { loads = one_more y.loads }
counted counters.Gc y = record y { gc = one_more y.gc }
counted counters.Nmt y = record y { nmt = one_more y.nmt }
counted counters.Healed y = record y { healed = one_more y.healed }
counted counters.Changed y = record y { changed = one_more y.changed }

-- the counter that an accepted step of a thread with this answer increments, if any
abbrev pub counter_of : Step → Answer → Option Counter
counter_of (steps.Load target object field) answer = Some counters.Loads
counter_of (steps.LoadGlobal target global) answer = Some counters.Loads
counter_of steps.Trap answers.Moved = Some counters.Gc
counter_of steps.Trap answers.Marked = Some counters.Nmt
counter_of steps.Heal answers.Healed = Some counters.Healed
counter_of steps.Heal answers.Changed = Some counters.Changed
counter_of _ _ = None
