-- The reference model that a history makes, and the invariant of recorded heaps.
use Rattle.std.specs.Prelude.{◌≡◌, ◌≤◌, List, [], ◌∷◌, length, Option, Some, None, IfSome, IfOk}
use Rattle.layout.specs.declared.shape.Layout.{Layout}
use Rattle.model.specs.declared.config.Config.{Config}
use Rattle.model.specs.declared.steps.Actor.{Actor}
use Rattle.model.specs.declared.steps.Step.{Step}
use Rattle.model.specs.Owning.{IsStore}
use Rattle.model.specs.Holding.{IsHeap}
use Rattle.model.specs.Plain.{PlainHeap, plain_start, plain_step, plain_answer}
use Rattle.laws.specs.Promises.{StandsForPlain, UsableHasMemory}
use Rattle.refinement.specs.Worlds.{world_of}
use Rattle.refinement.specs.PlainHeaps.{births_of}
use Rattle.refinement.specs.Standing.{Holds, AnswersPlain, Finds, Leaves, MovesPhase, kept_at_mark}
use Rattle.entries.specs.declared.entry.Entry.{Entry}
use Rattle.cycle.specs.Books.{BookState, Reply, Acts, act_outcome}
use Rattle.cycle.specs.Tallies.{TalliesAre}

-- a reference model, and what it was when the last mark began
pub record Replayed : Type 0 where
  pub now : PlainHeap
  pub at_mark : PlainHeap

-- after one more entry
abbrev pub after_entry : List Layout → Replayed → Entry → Replayed
after_entry ls r e = record { now = plain_step ls r.now e.actor e.step; at_mark = kept_at_mark r.now r.at_mark e.step }

-- after more entries
abbrev pub after_entries : List Layout → Replayed → List Entry → Replayed
after_entries ls r [] = r
after_entries ls r (e ∷ es) = after_entries ls (after_entry ls r e) es

-- before all entries: the reference model without births
abbrev pub before_entries : Config → Replayed
before_entries c = record { now = plain_start c; at_mark = plain_start c }

-- the reference model that the history of a recorded heap makes of the first one
unfoldable pub replayed : BookState → Replayed
replayed b = after_entries b.heap.config.layouts (before_entries b.heap.config) b.history

-- each entry's answer is the reference model's answer there, if that has one
abbrev pub AnswersAre : List Layout → Replayed → List Entry → Type 0
AnswersAre ls r [] = Unit {0}
AnswersAre ls r (e ∷ es) =
    AnswersPlain (plain_answer r.now e.actor e.step) e.answer × AnswersAre ls (after_entry ls r e) es

-- the last of these entries, if there is one
abbrev pub last_entry : List Entry → Option Entry
last_entry [] = None
last_entry (e ∷ []) = Some e
last_entry (e ∷ d ∷ es) = last_entry (d ∷ es)

-- if the last step of a recorded heap has ended a mark, that mark has found what is live
abbrev pub LastFinds : BookState → Type 0
LastFinds b = IfSome (last_entry b.history) (λ e. Finds b.heap (replayed b).now (replayed b).at_mark e.step)

-- the invariant of a recorded heap: its heap has its own invariants, and represents the reference model of the
-- history, whose answers it gave; and each thread's barrier counters are those of its entries
pub record IsBook (b : BookState) : Type 0 where
  pub store : IsStore b.heap.store
  pub heap : IsHeap b.heap
  pub holds : Holds b.heap (replayed b).now (replayed b).at_mark
  pub answers : AnswersAre b.heap.config.layouts (before_entries b.heap.config) b.history
  pub limit : length b.history ≤ b.heap.config.history
  pub marks : LastFinds b
  pub tallies : TalliesAre b.heap b.history

-- its promises: the heap represents the reference model of its history; no register that may be used refers to a page
-- without memory; if its last step has ended a mark, every reachable object is live, and each live object was
-- reachable when that mark began, or was allocated since; and the barrier counters of each thread are those of its
-- entries
pub record KeepsPromises (b : BookState) : Type 0 where
  pub stands : StandsForPlain (world_of b.heap) (births_of (replayed b).now)
  pub usable : UsableHasMemory (world_of b.heap)
  pub marks : LastFinds b
  pub tallies : TalliesAre b.heap b.history

-- the promises of a step with this reply: those of its recorded heap; and if it is accepted, objects that weren't
-- copied by the end of a mark are unreachable, and the phase changed only as the cycle allows
pub record StepPromises (old : BookState) (step : Step) (reply : Reply) (new : BookState) : Type 0 where
  pub book : KeepsPromises new
  pub leaves : IfOk reply (λ answer. Leaves old.heap (replayed old).now step)
  pub phase : IfOk reply (λ answer. MovesPhase old.heap step new.heap)

-- one reply for each step, in order, each step done on the recorded heap that the previous one left, with its
-- promises
abbrev pub Ran : BookState → List (Actor × Step) → List Reply → BookState → Type 0
Ran b [] [] c = c ≡ b
Ran b (s ∷ ss) (r ∷ rs) c =
    (d : BookState) × Acts b r d (act_outcome b s.0 s.1) × StepPromises b s.1 r d × Ran d ss rs c
Ran b _ _ c = ⊥
