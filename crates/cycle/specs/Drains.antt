-- Mark drains: the scanning steps of a worker, one after another, until none is left or one is rejected.
use Rattle.std.specs.Prelude.{◌≡◌, ℕ, zero, suc, ◌+◌, List, [], ◌∷◌, Option, Some, None, Result, Ok, Err}
use Rattle.model.specs.declared.steps.Actor.TheVariants.{Worker}
use Rattle.model.specs.declared.steps.Step.{Step}
use Rattle.model.specs.declared.steps.Refusal.{Refusal}
use Rattle.model.specs.declared.steps.Refusal.TheVariants as refusals
use Rattle.model.specs.Scans.{next_drain}
use Rattle.cycle.specs.Books.{BookState, Reply, act_outcome}
use Rattle.cycle.specs.Beginnings.{IsBeginning}
use Rattle.cycle.specs.Loads.{Told, tell, step_then, Leaves}
use Rattle.cycle.specs.Replays.{IsBook}

-- a worker's step, if there is one, and what follows if it is accepted
abbrev pub drain_step : BookState → ℕ → Option Step → (BookState → Told) → Told
drain_step b worker None next = tell b []
drain_step b worker (Some step) next = step_then b (act_outcome b (Worker worker) step) (λ c answer. next c)

-- the steps by which a worker drains the mark, one after another: at most n
unfoldable pub drain_within : ℕ → BookState → ℕ → Told
drain_within zero b worker = tell b []
drain_within (suc n) b worker =
    drain_step b worker (next_drain b.heap worker) (λ c. drain_within n c worker)

-- A complete drain. Each accepted step enters the history, so one step more than the history's limit of entries is
-- enough: that step would be rejected.
abbrev pub drain : BookState → ℕ → Told
drain b worker = drain_within (b.heap.config.history + 1) b worker

-- no drain of a recorded heap needs more steps: allowing more changes nothing
abbrev pub DrainsEnd : Type 0
DrainsEnd = (b : BookState) → IsBook b → (worker more : ℕ)
    → drain_within (b.heap.config.history + 1 + more) b worker ≡ drain b worker

-- the first error among replies, if there is one
abbrev pub verdict : List Reply → Result Unit Refusal
verdict [] = Ok tt
verdict (Ok answer ∷ replies) = verdict replies
verdict (Err e ∷ replies) = Err e

-- a call did the steps of a drain, and its result is the first error, if any; or it is out of memory after a
-- beginning
abbrev pub DrainsWhole : Result Unit Refusal → BookState → List Reply → BookState → List Reply → Told → Type 0
DrainsWhole (Err refusals.Memory) old before new all whole = IsBeginning whole.book old before new all
DrainsWhole result old before new all whole = Leaves whole before new all × (result ≡ verdict whole.replies)
