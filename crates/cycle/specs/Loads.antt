-- Complete loads: the steps of one load, one after another, up to its end or the first error.
use Rattle.std.specs.Prelude.{◌≡◌, ℕ, zero, suc, ◌+◌, Bool, true, false, not, List, [], ◌∷◌, ◌++◌}
use Rattle.std.specs.Prelude.{Option, Some, None, Result, Ok, Err, if◌then◌else◌}
use Rattle.model.specs.declared.steps.Actor.{Actor}
use Rattle.model.specs.declared.steps.Actor.TheVariants.{Thread, Worker}
use Rattle.model.specs.declared.steps.Step.{Step}
use Rattle.model.specs.declared.steps.Step.TheVariants as steps
use Rattle.model.specs.declared.steps.Answer.{Answer}
use Rattle.model.specs.declared.steps.Answer.TheVariants as answers
use Rattle.model.specs.declared.steps.Refusal.{Refusal}
use Rattle.model.specs.declared.steps.Refusal.TheVariants as refusals
use Rattle.model.specs.declared.records.Barrier.{Barrier}
use Rattle.model.specs.Loads.{barrier_of_thread, may_finish}
use Rattle.model.specs.States.{HeapState}
use Rattle.cycle.specs.Books.{BookState, BookOutcome, Reply, act_outcome}
use Rattle.cycle.specs.Beginnings.{IsBeginning}
use Rattle.cycle.specs.Replays.{IsBook}

-- the result of steps: the recorded heap after them, and their replies in order
pub record Told : Type 0 where
  pub book : BookState
  pub replies : List Reply

-- a recorded heap and replies
abbrev pub tell : BookState → List Reply → Told
tell b replies = record { book = b; replies = replies }

-- a step of this outcome, and what follows if it is accepted; nothing follows an error
unfoldable pub step_then : BookState → BookOutcome → (BookState → Answer → Told) → Told
step_then b (Ok x) next = tell (next x.0 x.1).book (Ok x.1 ∷ (next x.0 x.1).replies)
step_then b (Err e) next = tell b (Err e ∷ [])

-- one step
abbrev pub one_step : BookState → Actor → Step → Told
one_step b actor step = step_then b (act_outcome b actor step) (λ c answer. tell c [])

-- the load ends
abbrev pub finish_load : BookState → Actor → Told
finish_load b actor = one_step b actor steps.Finish

-- if a trap was due, the place of the load is healed first
abbrev pub heal_load : Bool → BookState → Actor → Told
heal_load false b actor = finish_load b actor
heal_load true b actor = step_then b (act_outcome b actor steps.Heal) (λ c answer. finish_load c actor)

-- no trap was due
abbrev pub is_clear : Answer → Bool
is_clear answers.Clear = true
is_clear other = false

-- traps until the answer is Clear, at most n times; then heals the place, if a trap was due, and finishes
unfoldable pub trap_load : ℕ → Bool → BookState → Actor → Told
trap_load zero due b actor = heal_load due b actor
trap_load (suc n) due b actor = step_then b (act_outcome b actor steps.Trap) (λ c answer.
    if is_clear answer then heal_load due c actor else trap_load n true c actor)

-- the reference of an open load was corrected, and its place isn't healed yet
abbrev pub waits_for_heal : Option Barrier → Bool
waits_for_heal None = false
waits_for_heal (Some barrier) = not (may_finish barrier)

-- the same for an actor's load
abbrev pub heal_is_due : HeapState → Actor → Bool
heal_is_due h (Thread t) = waits_for_heal (barrier_of_thread h t)
heal_is_due h (Worker w) = false

-- The end of a load that has begun, also of one that stopped after a trap that was due. Three traps are enough: after
-- one that corrects the reference and one that marks it, none is due.
abbrev pub end_load : BookState → Actor → Told
end_load b actor = trap_load 3 (heal_is_due b.heap actor) b actor

-- a complete load: the step that begins it, after which no heal is due, and its end
abbrev pub whole_load : BookState → Actor → Step → Told
whole_load b actor load = step_then b (act_outcome b actor load) (λ c answer. trap_load 3 false c actor)

-- no load of a recorded heap needs more than three traps: allowing more changes nothing
abbrev pub ThreeTrapsServe : Type 0
ThreeTrapsServe = (b : BookState) → IsBook b → (due : Bool) (actor : Actor) (more : ℕ)
    → trap_load (3 + more) due b actor ≡ trap_load 3 due b actor

-- a step has the reply of its outcome; a rejected one leaves the recorded heap as it was
abbrev pub Says : BookState → Reply → BookState → BookOutcome → Type 0
Says old (Ok answer) new outcome = outcome ≡ Ok (new, answer)
Says old (Err e) new outcome = (outcome ≡ Err e) × (new ≡ old)

-- replies before those of steps
abbrev pub behind : List Reply → Told → Told
behind replies t = tell t.book (replies ++ t.replies)

-- steps, whose replies are appended to others, leave this recorded heap and all these replies
abbrev pub Leaves : Told → List Reply → BookState → List Reply → Type 0
Leaves steps before book all = behind before steps ≡ tell book all

-- a list ends in a reply
abbrev pub EndsIn : List Reply → Reply → Type 0
EndsIn replies reply = (before : List Reply) × (replies ≡ before ++ reply ∷ [])

-- a load is complete if its last reply is accepted, and else fails as the last one does
abbrev pub IsVerdict : Result Unit Refusal → List Reply → Type 0
IsVerdict (Ok u) replies = (answer : Answer) × EndsIn replies (Ok answer)
IsVerdict (Err e) replies = EndsIn replies (Err e)

-- a load did the steps of a complete one, and its result is that of the last; or it is out of memory after a
-- beginning
abbrev pub LoadsWhole : Result Unit Refusal → BookState → List Reply → BookState → List Reply → Told → Type 0
LoadsWhole (Err refusals.Memory) old before new all whole = IsBeginning whole.book old before new all
LoadsWhole result old before new all whole = Leaves whole before new all × IsVerdict result all
