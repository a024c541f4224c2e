-- Counters of collections, alongside a heap.
use Rattle.std.specs.Prelude.{◌≡◌, ◌⊎◌, ◌<◌, ◌≤◌, ◌&&◌, ℕ, zero, suc, ◌+◌, not, Bool, true, false, min, nat_lt}
use Rattle.std.specs.Prelude.{List, Result, Ok, Err, if◌then◌else◌}
use Rattle.model.specs.declared.steps.Actor.{Actor}
use Rattle.model.specs.declared.steps.Actor.TheVariants.{Thread}
use Rattle.model.specs.declared.steps.Step.{Step}
use Rattle.model.specs.declared.steps.Step.TheVariants as steps
use Rattle.model.specs.declared.steps.Refusal.{Refusal}
use Rattle.model.specs.Outcome.{outcome}
use Rattle.model.specs.States.{HeapState}
use Rattle.model.specs.Tallies.{most_counted, one_more}
use Rattle.managed.specs.Batches.{fill_test}
use Rattle.managed.specs.Goings.{Goes}
use Rattle.collecting.specs.declared.collecting.Collected.{Collected}
use Rattle.collecting.specs.declared.counting.Cause.{Cause}
use Rattle.collecting.specs.declared.counting.Cause.TheVariants as causes
use Rattle.collecting.specs.declared.counting.Counters.{Counters}
use Rattle.collecting.specs.Collections.{EndsCollecting, lacks_room}
use Rattle.collecting.specs.Low.{are_low}
use Rattle.collecting.specs.Pacing.{has_begun, is_emptying, is_urgent, lacks_buffer, most_parts, stops}
use Rattle.collecting.specs.Stages.{PartGoesOn, PartsState, is_preparing}
use Rattle.collecting.specs.Targets.{in_use}

-- nothing is counted so far
abbrev pub no_counts : Counters
no_counts = record {
  by_calls = 0;
  by_policy = 0;
  by_room = 0;
  ended = 0;
  by_parts = 0;
  parts = 0;
  ended_in_parts = 0;
  emptied = 0;
  live = 0;
  live_words = 0;
  copied = 0;
  most_frames = 0;
}

-- a complete collection has begun for this cause
abbrev pub begun : Cause → Counters → Counters
begun causes.Call c = record c { by_calls = one_more c.by_calls }
begun causes.Policy c = record c { by_policy = one_more c.by_policy }
begun causes.Room c = record c { by_room = one_more c.by_room }

-- a complete collection has ended with this result
abbrev pub ended : Result Collected Refusal → Counters → Counters
ended (Ok r) c = record c {
  ended = one_more c.ended;
  emptied = min (c.emptied + r.emptied) most_counted;
  copied = min (c.copied + r.copied) most_counted;
  live = r.live;
  live_words = r.live_words;
}
ended (Err e) c = c

-- a complete collection has begun for this cause, and ended with this result
abbrev pub counted : Cause → Result Collected Refusal → Counters → Counters
counted cause r c = ended r (begun cause c)

-- `used` frames are used
abbrev pub seen_in_use : ℕ → Counters → Counters
seen_in_use used c = record c { most_frames = if nat_lt c.most_frames used then used else c.most_frames }

-- one more if the condition holds
abbrev pub one_if : Bool → ℕ → ℕ
one_if b n = if b then one_more n else n

-- a part was done: whether it has begun a collection, emptied a page, or ended the collection
abbrev pub part_done : Bool → Bool → Bool → Counters → Counters
part_done begins empties ends c = record c {
  parts = one_more c.parts;
  by_parts = one_if begins c.by_parts;
  emptied = one_if empties c.emptied;
  ended_in_parts = one_if ends c.ended_in_parts;
}

-- a part has chosen pages: it has ended the stage that prepares frames
abbrev pub has_chosen : PartsState → PartsState → Bool
has_chosen p q = is_preparing p.stage && not (is_preparing q.stage)

-- if pages were chosen, the words that live on all pages are counted, and if they were protected, those that are copied
abbrev pub words_counted : Bool → PartsState → Counters → Counters
words_counted chosen q c = record c {
  live_words = if chosen then q.words.all else c.live_words;
  copied = if chosen && is_emptying q then min (c.copied + q.words.copied) most_counted else c.copied;
}

-- a part was done with this result, if it didn't fail
abbrev pub result_counted : Bool → Bool → Result Bool Refusal → Counters → Counters
result_counted begins empties (Ok ends) c = part_done begins empties ends c
result_counted begins empties (Err e) c = c

-- a part has ended with this result, and left the collection as in q
abbrev pub part_counted : PartsState → HeapState → Result Bool Refusal → PartsState → Counters → Counters
part_counted p h r q c =
    words_counted (has_chosen p q) q (result_counted (not (has_begun p h)) (is_emptying p) r c)

-- ---- collections for a fresh buffer

-- thread t gives its buffer back, or takes one
abbrev pub IsTake : ℕ → Actor → Step → Type 0
IsTake t (Thread u) (steps.Take n) = u ≡ t
IsTake t (Thread u) steps.GiveBack = u ≡ t
IsTake t actor step = ⊥

-- only such steps lead from heap h to g
abbrev pub TakesOnly : ℕ → HeapState → HeapState → Type 0
TakesOnly t h g = Goes (IsTake t) h g

-- a complete collection of heap h was counted
abbrev pub HasCounted : Cause → ℕ → HeapState → Counters → Counters → Type 0
HasCounted cause percent h old new =
    (r : Result Collected Refusal) × (g : HeapState) × EndsCollecting percent h r g × (new ≡ counted cause r old)

-- there is no space for n words of thread t
abbrev pub LacksRoom : ℕ → ℕ → HeapState → Type 0
LacksRoom t n h = (e : Refusal) × (outcome h (Thread t) (steps.Take n) ≡ Err e) × (lacks_room e ≡ true)

-- at most the thread's buffer was given back and taken, and nothing was counted; or there was no space, and one
-- collection was counted
abbrev pub CountsRoom : ℕ → ℕ → ℕ → HeapState → Counters → HeapState → Counters → Type 0
CountsRoom t n percent h old g new =
    (TakesOnly t h g × (new ≡ old))
    ⊎ ((m : HeapState) × TakesOnly t h m × LacksRoom t n m × HasCounted causes.Room percent m old new)

-- if frames are low, one collection was counted; else as CountsRoom
abbrev pub CountsIf : Bool → ℕ → ℕ → ℕ → HeapState → Counters → HeapState → Counters → Type 0
CountsIf true t n percent h old g new = HasCounted causes.Policy percent h old new
CountsIf false t n percent h old g new = CountsRoom t n percent h old g new

abbrev pub CountsPolicy : ℕ → ℕ → ℕ → ℕ → HeapState → Counters → HeapState → Counters → Type 0
CountsPolicy t n free percent h old g new =
    CountsIf (are_low free h) t n percent h old g new

-- thread t was to get n words: the collection for them was counted, if there was one, and the frames in use were
-- counted
abbrev pub CountsRefill : ℕ → ℕ → ℕ → ℕ → HeapState → Counters → HeapState → Counters → Type 0
CountsRefill t n free percent h old g new =
    (m : HeapState) × (c : Counters) × TakesOnly t h m × CountsPolicy t n free percent m old g c
    × (new ≡ seen_in_use (in_use g) c)

-- CountsRefill, and then steps that count nothing
abbrev pub CountsMade : ℕ → ℕ → ℕ → ℕ → HeapState → Counters → Counters → Type 0
CountsMade t n free percent h old new = (g : HeapState) × CountsRefill t n free percent h old g new

-- thread t was to make an object: nothing was counted if its buffer has space, or the step is rejected for another
-- reason
abbrev pub CountsNew : Bool → ℕ → ℕ → ℕ → ℕ → HeapState → Counters → Counters → Type 0
CountsNew true t n free percent h old new = CountsMade t n free percent h old new
CountsNew false t n free percent h old new = new ≡ old

abbrev pub CountsMake : ℕ → ℕ → ℕ → ℕ → ℕ → ℕ → HeapState → Counters → Counters → Type 0
CountsMake t n free percent target layout h old new =
    CountsNew (lacks_buffer (outcome h (Thread t) (steps.New target layout))) t n free percent h old new

-- ---- counters during a collection in parts

-- k parts were done as by PacedBy, and each was counted
abbrev pub CountedBy : ℕ → Bool → ℕ → ℕ → ℕ → PartsState → HeapState → Counters → PartsState → HeapState → Counters
    → Type 0
CountedBy zero all free percent budget p h old q g new = (q ≡ p) × (g ≡ h) × (new ≡ old)
CountedBy (suc k) all free percent budget p h old q g new = (o : PartsState) × (m : HeapState) × (c : Counters)
    × CountedBy k all free percent budget p h old o m c × (k < most_parts all free budget o m)
    × PartGoesOn percent budget o m (Ok false) q g × (new ≡ part_counted o m (Ok false) q c)

-- as many as most_parts is then; or the next one was the last
abbrev pub CountsWhole : Bool → ℕ → ℕ → ℕ → PartsState → HeapState → Counters → PartsState → HeapState → Counters
    → Type 0
CountsWhole all free percent budget p h old q g new =
    (k : ℕ) × CountedBy k all free percent budget p h old q g new × (most_parts all free budget q g ≤ k)

abbrev pub CountsLast : Bool → ℕ → ℕ → ℕ → PartsState → HeapState → Counters → PartsState → HeapState → Counters
    → Type 0
CountsLast all free percent budget p h old q g new = (k : ℕ) × (o : PartsState) × (m : HeapState) × (c : Counters)
    × (r : Result Bool Refusal) × CountedBy k all free percent budget p h old o m c
    × (k < most_parts all free budget o m) × (stops r ≡ true)
    × PartGoesOn percent budget o m r q g × (new ≡ part_counted o m r q c)

abbrev pub CountsParts : Bool → ℕ → ℕ → ℕ → PartsState → HeapState → Counters → PartsState → HeapState → Counters
    → Type 0
CountsParts all free percent budget p h old q g new =
    CountsWhole all free percent budget p h old q g new ⊎ CountsLast all free percent budget p h old q g new

-- then thread t was to make an object, for which the heap is collected by one call only if no frame is free
abbrev pub CountsPaced : ℕ → ℕ → ℕ → ℕ → ℕ → ℕ → ℕ → PartsState → HeapState → Counters → PartsState → Counters → Type 0
CountsPaced t n free percent budget target layout p h old q new = (m : HeapState) × (c : Counters)
    × CountsParts (is_urgent free p h) free percent budget p h old q m c
    × CountsMake t n 0 percent target layout m c new

-- the parts come only if the thread's buffer has no space
abbrev pub CountsPacedIf : Bool → ℕ → ℕ → ℕ → ℕ → ℕ → ℕ → ℕ → PartsState → HeapState → Counters → PartsState
    → Counters → Type 0
CountsPacedIf true t n free percent budget target layout p h old q new =
    CountsPaced t n free percent budget target layout p h old q new
CountsPacedIf false t n free percent budget target layout p h old q new = new ≡ old

abbrev pub CountsMakePaced : ℕ → ℕ → ℕ → ℕ → ℕ → ℕ → ℕ → PartsState → HeapState → Counters → PartsState → Counters
    → Type 0
CountsMakePaced t n free percent budget target layout p h old q new =
    CountsPacedIf (lacks_buffer (outcome h (Thread t) (steps.New target layout))) t n free percent budget target
    layout p h old q new

-- ---- objects that are filled

-- something was counted if the object can be filled; else nothing was
abbrev pub CountsAfter : Result Unit Refusal → Type 0 → Counters → Counters → Type 0
CountsAfter (Ok u) P old new = P
CountsAfter (Err e) P old new = new ≡ old

abbrev pub CountsFill : ℕ → ℕ → ℕ → ℕ → ℕ → ℕ → List ℕ → List ℕ → HeapState → Counters → Counters → Type 0
CountsFill t n free percent target layout sources nums h old new =
    CountsAfter (fill_test h t target layout sources nums)
    (CountsMake t n free percent target layout h old new) old new

abbrev pub CountsFillPaced : ℕ → ℕ → ℕ → ℕ → ℕ → ℕ → ℕ → List ℕ → List ℕ → PartsState → HeapState → Counters
    → PartsState → Counters → Type 0
CountsFillPaced t n free percent budget target layout sources nums p h old q new =
    CountsAfter (fill_test h t target layout sources nums)
    (CountsMakePaced t n free percent budget target layout p h old q new) old new
