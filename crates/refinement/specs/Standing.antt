-- A heap's state represents a reference model, and the promises of its steps.
use Rattle.std.specs.Prelude.{◌≡◌, ◌⊎◌, ℕ, Option, Some, None, Result, Ok, IfOk}
use Rattle.model.specs.declared.steps.Actor.{Actor}
use Rattle.model.specs.declared.steps.Step.{Step}
use Rattle.model.specs.declared.steps.Step.TheVariants as steps
use Rattle.model.specs.declared.steps.Answer.{Answer}
use Rattle.model.specs.declared.steps.Refusal.{Refusal}
use Rattle.model.specs.declared.config.Config.{Config}
use Rattle.model.specs.Owning.{Each, IsStore}
use Rattle.model.specs.Holding.{HasSizes, IsHeap}
use Rattle.model.specs.States.{HeapState}
use Rattle.model.specs.First.{first_heap}
use Rattle.model.specs.Outcome.{outcome}
use Rattle.model.specs.Plain.{PlainHeap, plain_step, plain_answer, plain_start}
use Rattle.model.specs.declared.records.Phase.{Phase}
use Rattle.model.specs.declared.records.Phase.TheVariants.{Idle, MarkCrossing, Scanning, ProtectCrossing, Relocating}
use Rattle.model.specs.Checkpoints.{first_behind}
use Rattle.laws.specs.Invariant.{Invariant}
use Rattle.laws.specs.Promises.{ReachableIsLive, LiveWasReachable, PlannedIsUnreachable}
use Rattle.laws.specs.Promises.{StandsForPlain, UsableHasMemory, UsableReadsPlain, SameAddressSameBirth, NullIsNone}
use Rattle.refinement.specs.Worlds.{world_of}
use Rattle.refinement.specs.PlainHeaps.{births_of, HasRootsOf}
use Rattle.refinement.specs.Claims.{IsLaid, HasGiven}
use Rattle.refinement.specs.Roots.{HasWords}
use Rattle.refinement.specs.Tallies.{CountsStep}

-- the invariant between a heap and a reference model p; p0 is the reference model when the last mark started
pub record Holds (h : HeapState) (p p0 : PlainHeap) : Type 0 where
  pub sizes : HasSizes h
  pub laid : IsLaid h
  pub given : Each h.store.pages HasGiven
  pub words : HasWords h
  pub roots : HasRootsOf h p
  pub invariant : Invariant (world_of h) (births_of p) (births_of p0)

-- if the invariant holds, the heap represents the reference model, and no usable register refers to a page without
-- memory
abbrev pub HeapsStand : Type 0
HeapsStand =
    (h : HeapState) (p p0 : PlainHeap) → Holds h p p0
    → StandsForPlain (world_of h) (births_of p) × UsableHasMemory (world_of h)

-- if it holds, a thread's reads of its usable registers return what they do in the reference model
abbrev pub HeapsRead : Type 0
HeapsRead =
    (h : HeapState) (p p0 : PlainHeap) → Holds h p p0
    → UsableReadsPlain (world_of h) (births_of p) × SameAddressSameBirth (world_of h) (births_of p)
    × NullIsNone (world_of h) (births_of p)

-- an answer is the reference model's, if that has one
abbrev pub AnswersPlain : Option Answer → Answer → Type 0
AnswersPlain None answer = Unit {0}
AnswersPlain (Some a) answer = answer ≡ a

-- the reference model when the last mark started, after a step: a mark that starts keeps that of its moment
abbrev pub kept_at_mark : PlainHeap → PlainHeap → Step → PlainHeap
kept_at_mark p p0 steps.StartMark = p
kept_at_mark p p0 _ = p0

-- after an accepted step the heap represents the reference model after its step, and the answer is the reference
-- model's
pub record StepHolds (h : HeapState) (p p0 : PlainHeap) (actor : Actor) (step : Step) (g : HeapState) (answer : Answer)
    : Type 0 where
  pub config : g.config ≡ h.config
  pub holds : Holds g (plain_step h.config.layouts p actor step) (kept_at_mark p p0 step)
  pub answers : AnswersPlain (plain_answer p actor step) answer

-- the first heap of a configuration represents the first reference model
abbrev pub FirstHolds : Type 0
FirstHolds = (c : Config) → Holds (first_heap c) (plain_start c) (plain_start c)

-- every accepted step keeps that the heap represents a reference model
abbrev pub StepsHold : Type 0
StepsHold =
    (h : HeapState) (p p0 : PlainHeap) (actor : Actor) (step : Step) (g : HeapState) (answer : Answer)
    → IsStore h.store → IsHeap h → Holds h p p0 → outcome h actor step ≡ Ok (g, answer)
    → StepHolds h p p0 actor step g answer

-- after a mark that has just ended: each reachable object is live, and each live object was reachable when the mark
-- started, or is born since
pub record FindsLive (h : HeapState) (p p0 : PlainHeap) : Type 0 where
  pub reachable : ReachableIsLive (world_of h) (births_of p)
  pub live : LiveWasReachable (world_of h) (births_of p0)

-- the promises of a step that ends a mark: which objects are live
abbrev pub Finds : HeapState → PlainHeap → PlainHeap → Step → Type 0
Finds h p p0 steps.EndMark = FindsLive h p p0
Finds h p p0 _ = Unit {0}

-- the promises of a step that ends a mark: uncopied objects of protected pages are unreachable
abbrev pub Leaves : HeapState → PlainHeap → Step → Type 0
Leaves h p steps.EndMark = PlannedIsUnreachable (world_of h) (births_of p)
Leaves h p _ = Unit {0}

-- every step that ends a mark has these promises
abbrev pub MarksFind : Type 0
MarksFind =
    (h : HeapState) (p p0 : PlainHeap) (actor : Actor) (step : Step) (g : HeapState) (answer : Answer)
    → IsStore h.store → IsHeap h → Holds h p p0 → outcome h actor step ≡ Ok (g, answer)
    → Finds g (plain_step h.config.layouts p actor step) (kept_at_mark p p0 step) step × Leaves h p step

-- a crossing leaves the phase while a thread hasn't crossed, and the last one begins the next phase
abbrev pub CrossesInto : Phase → Option ℕ → Phase → Type 0
CrossesInto before (Some behind) after = after ≡ before
CrossesInto before None after =
    ((before ≡ MarkCrossing) × (after ≡ Scanning)) ⊎ ((before ≡ ProtectCrossing) × (after ≡ Relocating))

-- how an accepted step changes the phase, from heap h to g
abbrev pub MovesPhase : HeapState → Step → HeapState → Type 0
MovesPhase h steps.StartMark g = ((h.phase ≡ Idle) ⊎ (h.phase ≡ Relocating)) × (g.phase ≡ MarkCrossing)
MovesPhase h steps.Cross g = CrossesInto h.phase (first_behind g.threads) g.phase
MovesPhase h (steps.CrossFor t) g = CrossesInto h.phase (first_behind g.threads) g.phase
MovesPhase h steps.EndMark g = (h.phase ≡ Scanning) × (g.phase ≡ Idle)
MovesPhase h (steps.Protect pages) g = (h.phase ≡ Idle) × (g.phase ≡ ProtectCrossing)
MovesPhase h _ g = g.phase ≡ h.phase

-- every accepted step changes the phase so
abbrev pub PhasesMove : Type 0
PhasesMove =
    (h : HeapState) (p p0 : PlainHeap) (actor : Actor) (step : Step) (g : HeapState) (answer : Answer)
    → IsStore h.store → IsHeap h → Holds h p p0 → outcome h actor step ≡ Ok (g, answer) → MovesPhase h step g

-- the promises of an accepted step from a heap that represented the reference model p: it represents the reference
-- model after its step, and its answer is that model's; if it has ended a mark, each reachable object is live, each
-- live object was reachable when the mark started or is born since, and uncopied objects are unreachable; the phase
-- has changed as it may; and the barrier counters count the step
pub record StepKeeps (old : HeapState) (p p0 : PlainHeap) (actor : Actor) (step : Step) (new : HeapState)
    (answer : Answer) : Type 0 where
  pub stands : StepHolds old p p0 actor step new answer
  pub finds : Finds new (plain_step old.config.layouts p actor step) (kept_at_mark p p0 step) step
  pub leaves : Leaves old p step
  pub phase : MovesPhase old step new
  pub tallies : CountsStep old actor step answer new

-- the promises of a call with this result, if the heap represented a reference model
abbrev pub KeepsStanding : HeapState → Actor → Step → Result Answer Refusal → HeapState → Type 0
KeepsStanding old actor step result new =
    (p p0 : PlainHeap) → Holds old p p0 → IfOk result (λ answer. StepKeeps old p p0 actor step new answer)
